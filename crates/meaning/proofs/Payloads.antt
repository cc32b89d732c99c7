-- Payloads that are cut into slots keep their right content where they are copied; packed arrays in house form are read again as the
-- same. Assumes nothing.
use Prim.Native.Nat.{ℕ, suc, ◌+◌, ◌*◌, ◌≤◌}
use mathlib.Core.Path.{◌≡◌, refl, sym, ap, subst, ◌∙◌}
use mathlib.Core.Bool.{Bool, true, false}
use mathlib.Core.List.{List, [], ◌∷◌, ◌++◌, append_assoc}
use native.Mathlib.Omega.{arith}
use lib.ListN.{take, drop}
use lib.Dec.{eqb}
use borrow.Author.Tests.{le-leb}
use Rattle.format.specs.Grammars.{Grammar}
use Rattle.format.specs.Conditions.{among, all}
use Rattle.format.specs.Outcome.{Outcome, done, ◌>>=◌, ◌>>◌, guard}
use Rattle.format.specs.Limits.{limit}
use Rattle.format.specs.Refusals.{wrong_content, over_limit}
use Rattle.format.specs.Marks.{bracket, opens, is_type, integers, types, width, '#', '$', '[', left_brace}
use Rattle.format.specs.Tokens.{packed as kind_of_packed, size}
use Rattle.format.specs.Indexes.{below}
use Rattle.format.specs.Storage.{Slot, elements}
use Rattle.format.specs.Bytes.{bytes, reach}
use Rattle.format.specs.Content.{is_content, content, contents}
use Rattle.format.specs.HouseForm.{shape, payload_of, token, house}
use Rattle.format.specs.SameMeaning.{has_bytes}
use Rattle.format.specs.Dimensions.{Shape}
use Rattle.format.specs.Containers as Containers
use Rattle.format.specs.Read as Read
use Rattle.format.proofs.Parts.{length-bytes}
use Rattle.laws.proofs.Slots.{Inside, nil, slot, elements_inside, length_count}
use Rattle.meaning.proofs.Known.{Succeeds, succeeds, after, then_known, guard_known, taken, passed, bytes_part, From, from_past, from_after, from_bytes, byte_known, one_of_known, reach_known, row_known}
use Rattle.meaning.proofs.Accepted.{Filled}
use Rattle.meaning.proofs.Layouts as Layouts
use Rattle.meaning.proofs.Layouts.{SameCut, no_slot, elements_cut}
use Rattle.meaning.proofs.Chains.{closers, copy_at, Reading, alone_reading}
use Rattle.meaning.proofs.Scalars.{none_among, copied_same}
use Rattle.meaning.proofs.Lists.{enter}
use Rattle.meaning.proofs.Vectors.{Shapes}

module _ (m h : List ℕ) where
  -- one slot's test, and those of the rest
  one_right : (b : Bool) (p p' : ℕ) {o o' : Outcome (Unit {0})} → (o ≡ done tt → o' ≡ done tt)
      → (guard b wrong_content p >>= (λ _. o)) ≡ done tt → (guard b wrong_content p' >>= (λ _. o')) ≡ done tt
  unfolding guard ◌>>=◌
  one_right true p p' f e = f e
  one_right false p p' f e = let z : ◌≡◌ {A = ℕ} 0 1 = cc in absurd (omega arith)

  contents_again : (start at n : ℕ) {ss ts : List (Slot ℕ)} → Inside n ss → SameCut ss ts → bytes h at n ≡ bytes m start n
      → contents m start ss ≡ done tt → contents h at ts ≡ done tt
  unfolding contents content
  contents_again start at n nil no_slot q e = refl
  contents_again start at n (slot {s = s} b i) (Layouts.slot {t = t} a c) q e =
      let y : bytes h (at + s.offset) s.wide ≡ bytes m (start + s.offset) s.wide =
      bytes_part h at n s.offset s.wide b ∙ ap (λ z. take s.wide (drop s.offset z)) q ∙ sym (bytes_part m start n s.offset s.wide b) in
      rw (a.marks, a.offsets, a.widths, y) (one_right (is_content s.mark (bytes m (start + s.offset) s.wide)) _ _ (contents_again start at n i c q) e)

  -- a payload, copied
  pub filled_known : {A : Type 0} {P : A → Type 0} {r : Outcome A} (start n at : ℕ) {ss ts : List (Slot ℕ)} (l : List ℕ) → Filled m start n ss → Inside n ss → SameCut ss ts
      → From h at (bytes m start n ++ l) → (From h (at + n) l → bytes h at n ≡ bytes m start n → Succeeds P r)
      → Succeeds P (reach h (at + n) >> (contents h at ts >> r))
  filled_known start n at l c i k e f =
      let w = length-bytes m start n c.inside in
      let q : bytes h at n ≡ bytes m start n = from_bytes h at n (bytes m start n) l w e in
      let p : From h (at + n) l = from_after h n (bytes m start n) w e in
      reach_known h (at + n) p.here (then_known (contents_again start at n i k q c.right) (f p q))

type_no_brace : (mark : ℕ) → is_type mark ≡ true → eqb mark left_brace ≡ false
unfolding is_type types integers all
type_no_brace mark t = none_among (λ k. eqb k left_brace) types mark refl t

module _ (m h : List ℕ) (rows_lent : ℕ) (grammar : Grammar) (most : ℕ) (lent : most ≤ rows_lent) (few : most ≤ limit) where
  pub packed_again : (levels mark at₀ start row₀ : ℕ) (n : Shape) → is_type mark ≡ true → n.many ≤ limit → Shapes m h rows_lent most lent true n.order n.many n.dimensions
      → Filled m start (n.many * width mark) (elements row₀ mark (below n.many))
      → Reading m h most closers (Read.value_by h rows_lent grammar (Read.nested h rows_lent grammar (suc levels))) (Containers.stored kind_of_packed mark at₀ start (n.many * width mark) n n.dimensions)
  unfolding Containers.stored token house payload_of opens size among closers has_bytes Containers.container_by Containers.typed Containers.typed_as Containers.packed
  packed_again levels mark at₀ start row₀ n t u p c = alone_reading m h most (record { head = '['; tail = _; split = refl; fits = refl }) λ at row l e s.
      let dims = house m n.dimensions in
      let extent = n.many * width mark in
      let e₁ : From h at ('[' ∷ '$' ∷ mark ∷ '#' ∷ (shape n.order n.many dims ++ (bytes m start extent ++ l))) =
      subst (λ x. From h at ('[' ∷ '$' ∷ mark ∷ '#' ∷ x)) (append_assoc (shape n.order n.many dims) _ l) e in
      let i : Inside extent (elements row₀ mark (below n.many)) = rw (length_count 0 n.many) at (elements_inside row₀ mark (below n.many)) in
      enter m h rows_lent grammar most lent few levels bracket at row _ e₁ (row_known h rows_lent at row (omega arith) (byte_known h _ (from_past h ('[' ∷ []) e₁) (taken _ _ refl
      (byte_known h _ (from_past h ('[' ∷ '$' ∷ []) e₁) (passed _ _ (type_no_brace mark t)
      (guard_known _ _ _ t (one_of_known h _ _ (from_past h ('[' ∷ '$' ∷ mark ∷ []) e₁) refl
      (after (p (at + 4) (row + 1) _ (from_past h ('[' ∷ '$' ∷ mark ∷ '#' ∷ []) e₁) (omega arith)) λ r hr.
      rw (hr.0, hr.1) (guard_known _ over_limit at (le-leb n.many limit u)
      (filled_known m h start extent r.1 l c i (elements_cut row₀ row mark (below n.many)) hr.3 λ q x.
      succeeds (copy_at refl (copied_same m h kind_of_packed mark at₀ at start r.1 extent n.many n.order refl x hr.2.same) hr.2.stand, q)))))))))))
