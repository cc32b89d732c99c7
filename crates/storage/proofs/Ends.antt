-- Values end to end: the slots of each, by its number. Assumes nothing.
use Prim.Native.Nat.{ℕ, suc, ◌+◌, ◌*◌}
use mathlib.Core.Path.{◌≡◌, refl, sym, subst}
use mathlib.Core.List.Memᴰ
use mathlib.Core.List.{List, Memᴰ}
use mathlib.Core.Logic.{inl, inr}
use native.Mathlib.Omega.{arith}
use native.Mathlib.Nat.{suc-mul}
use Rattle.format.specs.Storage.{Slot, end_to_end}
use Rattle.storage.proofs.Numbering.{Numbered, stop, step}

module _ {A : Type 0} {number : A → ℕ} {end : ℕ} (base w : ℕ) (cut : A → ℕ → List (Slot A)) where
  -- a slot of a value is one of them all
  in_end : {k : ℕ} {l : List A} {a : A} {s : Slot A} → Numbered number end k l → Memᴰ a l → Memᴰ s (cut a (base + number a * w))
      → Memᴰ s (end_to_end l w cut (base + k * w))
  unfolding end_to_end
  in_end (stop _) x m = elim x [ ]
  in_end {s = s} (step {a = b} q r) (Memᴰ.head e) m =
      Memᴰ.append_left _ (subst (λ x. Memᴰ s (cut b (base + x * w))) q (subst (λ x. Memᴰ s (cut x (base + number x * w))) e m))
  in_end {k = k} {s = s} (step {a = b} {l = l} q r) (Memᴰ.tail n) m =
      let e : base + suc k * w ≡ base + k * w + w = omega (arith, suc-mul k w) in
      Memᴰ.append_right (cut b (base + k * w)) (subst (λ x. Memᴰ s (end_to_end l w cut x)) e (in_end r n m))

  -- and a slot of them all is one of a value
  of_end : {k : ℕ} {l : List A} {s : Slot A} → Numbered number end k l → Memᴰ s (end_to_end l w cut (base + k * w))
      → (a : A) × Memᴰ a l × Memᴰ s (cut a (base + number a * w))
  unfolding end_to_end
  of_end (stop q) m = absurd (Memᴰ.not-nil m)
  of_end {k = k} {s = s} (step {a = b} {l = l} q r) m = elim (Memᴰ.append_cases (cut b (base + k * w)) m) [
    | inl h ↦ (b, Memᴰ.head refl, subst (λ x. Memᴰ s (cut b (base + x * w))) (sym q) h)
    | inr h ↦ (
        let e : base + k * w + w ≡ base + suc k * w = omega (arith, suc-mul k w) in
        let x = of_end r (subst (λ y. Memᴰ s (end_to_end l w cut y)) e h) in
        (x.0, Memᴰ.tail x.1, x.2))
  ]

-- from the first on
module _ {A : Type 0} {number : A → ℕ} {end : ℕ} {l : List A} (n : Numbered number end 0 l) (base w : ℕ) (cut : A → ℕ → List (Slot A)) where
  pub in_cut : {a : A} {s : Slot A} → Memᴰ a l → Memᴰ s (cut a (base + number a * w)) → Memᴰ s (end_to_end l w cut base)
  in_cut {s = s} m c = let e : base + 0 * w ≡ base = omega arith in subst (λ x. Memᴰ s (end_to_end l w cut x)) e (in_end base w cut n m c)

  pub of_cut : {s : Slot A} → Memᴰ s (end_to_end l w cut base) → (a : A) × Memᴰ a l × Memᴰ s (cut a (base + number a * w))
  of_cut {s} m = let e : base ≡ base + 0 * w = omega arith in of_end base w cut n (subst (λ x. Memᴰ s (end_to_end l w cut x)) e m)
