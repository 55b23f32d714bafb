-- The ten positions and the ten marks of a packing.
use Rattle.std.specs.Prelude.{◌∷◌, ◌≡◌, ◌<◌}
use Rattle.prelude.specs.Names.{[], map, refl, ℕ, zero, suc, arith, get_or}

-- each of the ten that a function gives
pub ten-at : {A : Type 0} (d : A) (f : ℕ → A) (u : ℕ) → u < 10 → get_or (map f (0 ∷ 1 ∷ 2 ∷ 3 ∷ 4 ∷ 5 ∷ 6 ∷ 7 ∷ 8 ∷ 9 ∷ [])) u d ≡ f u
ten-at d f zero h = refl
ten-at d f (suc zero) h = refl
ten-at d f (suc (suc zero)) h = refl
ten-at d f (suc (suc (suc zero))) h = refl
ten-at d f (suc (suc (suc (suc zero)))) h = refl
ten-at d f (suc (suc (suc (suc (suc zero))))) h = refl
ten-at d f (suc (suc (suc (suc (suc (suc zero)))))) h = refl
ten-at d f (suc (suc (suc (suc (suc (suc (suc zero))))))) h = refl
ten-at d f (suc (suc (suc (suc (suc (suc (suc (suc zero)))))))) h = refl
ten-at d f (suc (suc (suc (suc (suc (suc (suc (suc (suc zero))))))))) h = refl
ten-at d f (suc (suc (suc (suc (suc (suc (suc (suc (suc (suc u)))))))))) h = absurd (omega arith)
