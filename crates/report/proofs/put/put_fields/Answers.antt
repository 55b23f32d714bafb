use Rattle.std.specs.Prelude.{◌≡◌}
use Rattle.prelude.specs.Names.{arith, take, length-append, take_all}
use Rattle.formats.proofs.Stores.{row-none, row_next}
use Rattle.report.specs.Text.{text_field}
use Rattle.report.proofs.Puts.{rest-room, fronts_joined, byte_after, fields_ended, fields-length, field_room}
use Rattle.report.proofs.put.put_fields.Goals as goal

pub loop-n-init : goal.loop-n-init
loop-n-init c = record { put = rw (row-none text_field c.args.numbers.now); at = rw (row-none text_field c.args.numbers.now) }

pub put_field-at-requires : goal.put_field-at-requires
put_field-at-requires c =
    let l = c.loop-n in
    rest-room l.out l.at _ (omega (arith, field_room c.args.numbers.now l.n-index c.loop-n-test.true))

pub loop-n-preserved : goal.loop-n-preserved
loop-n-preserved c =
    let l = c.loop-n in
    let room = field_room c.args.numbers.now l.n-index c.loop-n-test.true in
    let next = row_next text_field c.args.numbers.now l.n-index 0 c.loop-n-test.true in
    record {
      put = rw next (fronts_joined _ _ c.args.out.now l.invariant.at (omega (arith, room)) l.invariant.put c.put_field-at.ensures.out_after);
      at = rw (next, length-append) (omega arith);
    }

pub bounds-out-at : goal.bounds-out-at
bounds-out-at c =
    let l = c.loop-n in
    let all : take l.n-index c.args.numbers.now ≡ c.args.numbers.now = take_all l.n-index c.args.numbers.now c.loop-n-test.false in
    omega (arith, fields-length c.args.numbers.now, rw all at l.invariant.at)

pub returns : goal.returns
returns c =
    let l = c.loop-n in
    let ns = c.args.numbers.now in
    let all : take l.n-index ns ≡ ns = take_all l.n-index ns c.loop-n-test.false in
    let end = rw all at l.invariant.at in
    let size = fields-length ns in
    record {
      value = omega (arith, size, end);
      out_after = rw (fields_ended ns, l.invariant.put, end, all) (byte_after _ c.args.out.now 10 (omega (arith, size)));
    }
