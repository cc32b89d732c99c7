-- Schemas in house form are read again as the same. Assumes nothing.
use Prim.Native.Nat.{ℕ, suc, ◌+◌, ◌≤◌}
use mathlib.Core.Path.{◌≡◌, refl, sym, ap, subst, ◌∙◌}
use mathlib.Core.Bool.{Bool, true, false, not, false≢true}
use mathlib.Core.List.{List, [], ◌∷◌, ◌++◌, append_assoc}
use native.Mathlib.Omega.{arith}
use lib.Dec.{eqb}
use Rattle.format.specs.Grammars.{Grammar}
use Rattle.format.specs.Conditions.{when◌then◌else◌, among, all}
use Rattle.format.specs.Limits.{limit}
use Rattle.format.specs.Marks.{Opening, bracket, brace, opens, closes, is_plain_leaf, integers, types, leaf_width, 'S', 'T', 'Z', '$', '['}
use Rattle.format.specs.Tokens.{kind_number, Forest, size, ◌⊕◌}
use Rattle.format.specs.HouseForm.{small_integer, token, written, whole, house}
use Rattle.format.specs.SameMeaning.{has_bytes, has_id}
use Rattle.format.specs.Sequences.{Reader, ◌⨾◌}
use Rattle.format.specs.Scalars as Scalars
use Rattle.format.specs.Schemas as Schemas
use Rattle.laws.proofs.Schemas.{group_kind, Members}
use Rattle.meaning.specs.Standing.{no_token}
use Rattle.meaning.proofs.Same.{Same, nothing, one, same_members}
use Rattle.meaning.proofs.Known.{Succeeds, succeeds, after, guard_known, taken, passed, From, from_past, byte_known, row_known, integer_known}
use Rattle.meaning.proofs.Accepted.{group, Accepted, a_group}
use Rattle.meaning.proofs.Accepted as Accepted
use Rattle.meaning.proofs.Layouts.{members_schematic, same_width}
use Rattle.meaning.proofs.Chains.{closers, Begins, CopyAt, copy_at, Reading, Chain, alone_reading, begun, house_append, begins_append, differs, chain_some}
use Rattle.meaning.proofs.Scalars.{none_among}

-- ---- leaves

leaf_begins : (mark : ℕ) → is_plain_leaf mark ≡ true → among closers mark ≡ false
unfolding is_plain_leaf types integers all among closers
leaf_begins mark t = none_among (among closers) ('T' ∷ 'Z' ∷ types) mark refl t

-- a leaf that is its mark alone, as it is written
plain_written : (mark : ℕ) (x : List ℕ) → is_plain_leaf mark ≡ true → mark ∷ (when eqb mark 'S' then x else []) ≡ mark ∷ []
unfolding is_plain_leaf types integers all when◌then◌else◌
plain_written mark x t = rw (none_among (λ k. eqb k 'S') ('T' ∷ 'Z' ∷ types) mark refl t)

text_written : (x : List ℕ) → 'S' ∷ (when eqb 'S' 'S' then x else []) ≡ 'S' ∷ x
unfolding when◌then◌else◌
text_written x = refl

-- the bytes of a schema's tokens don't count
group_bytes : (o : Opening) → (has_bytes (kind_number (group_kind o)) ≡ false) × (has_id (kind_number (group_kind o)) ≡ false)
unfolding has_bytes among
group_bytes bracket = (refl, refl)
group_bytes brace = (refl, refl)

module _ (m h : List ℕ) where
  leaf_same : (mark at at' n : ℕ) → Same m h (Schemas.leaf mark at n) (Schemas.leaf mark at' n)
  unfolding Schemas.leaf has_bytes among
  leaf_same mark at at' n = one (record {
    kinds = refl;
    marks = λ _. refl;
    payloads = λ _. refl;
    extents = λ _. refl;
    counted = refl;
    orders = refl;
    contents = λ b. absurd (false≢true b);
    ids = λ b. absurd (false≢true b);
  }) nothing nothing

  group_same : (o : Opening) (at at' : ℕ) {under under' : Forest} {k due : Bool} → Members k due under → Same m h under under'
      → Same m h (Schemas.group (group_kind o) o at under) (Schemas.group (group_kind o) o at' under')
  unfolding Schemas.group
  group_same o at at' u s = one (record {
    kinds = refl;
    marks = λ _. refl;
    payloads = λ _. refl;
    extents = λ _. same_width m h (members_schematic u) s;
    counted = same_members m h s;
    orders = refl;
    contents = λ b. absurd (false≢true (sym (group_bytes o).0 ∙ b));
    ids = λ b. absurd (false≢true (sym (group_bytes o).1 ∙ b));
  }) s nothing

-- a schema or fixed array begins with its opening mark
pub group_begins : (m : List ℕ) {grammar : Grammar} {levels : ℕ} {o : Opening} {f : Forest} → Accepted m grammar Accepted.one (group levels o) f → (y : List ℕ) × (house m f ≡ opens o ∷ y)
unfolding house written whole token Schemas.group
group_begins m (a_group levels bracket at u p q) = (_, refl)
group_begins m (a_group levels brace at u p q) = (_, refl)

module _ (m h : List ℕ) (rows_lent most : ℕ) (lent : most ≤ rows_lent) where
  -- a kind, given what reads a nested schema or a fixed array
  abbrev Kind : (Opening → Reader) → Forest → Type 0
  Kind nested f = Reading m h most closers (Schemas.kind_by h rows_lent nested) f

  pub leaf_again : (nested : Opening → Reader) (mark at₀ : ℕ) → is_plain_leaf mark ≡ true → Kind nested (Schemas.leaf mark at₀ (leaf_width mark))
  unfolding Schemas.leaf token Schemas.kind_by Schemas.plain_leaf size
  leaf_again nested mark at₀ t = alone_reading m h most (record { head = mark; tail = _; split = refl; fits = leaf_begins mark t }) λ at row l e s.
      let e₁ : From h at (mark ∷ l) = subst (λ x. From h at (x ++ l)) (plain_written mark (small_integer (leaf_width mark)) t) e in
      byte_known h _ e₁ (taken _ _ t (row_known h rows_lent at row (omega arith) (succeeds (copy_at refl (leaf_same m h mark at₀ at (leaf_width mark)) no_token, from_past h (mark ∷ []) e₁))))

  pub text_leaf_again : (nested : Opening → Reader) (at₀ n : ℕ) → n ≤ limit → Kind nested (Schemas.leaf 'S' at₀ n)
  unfolding Schemas.leaf token Schemas.kind_by Schemas.text_leaf size is_plain_leaf types integers among closers
  text_leaf_again nested at₀ n u = alone_reading m h most (record { head = 'S'; tail = _; split = refl; fits = refl }) λ at row l e s.
      let e₁ : From h at ('S' ∷ (small_integer n ++ l)) = subst (λ x. From h at (x ++ l)) (text_written (small_integer n)) e in
      byte_known h _ e₁ (passed _ _ refl (taken _ _ refl (row_known h rows_lent at row (omega arith)
      (integer_known h n u _ (from_past h ('S' ∷ []) e₁) λ next e₂. succeeds (copy_at refl (leaf_same m h 'S' at₀ at n) no_token, e₂)))))

  -- a nested schema or fixed array is a kind
  pub kind_again : (nested : Opening → Reader) {grammar : Grammar} {levels : ℕ} (o : Opening) {f : Forest} → Accepted m grammar Accepted.one (group levels o) f → Reading m h most closers (nested o) f → Kind nested f
  unfolding Schemas.kind_by is_plain_leaf types integers among opens
  kind_again nested bracket g p = record {
    begins = p.begins;
    reads = λ at row l e s.
        let e₁ = subst (λ x. From h at (x ++ l)) (group_begins m g).1 e in
        byte_known h _ e₁ (passed _ _ refl (passed _ _ refl (passed _ _ refl (taken _ _ refl (p.reads at row l e s)))));
  }
  kind_again nested brace g p = record {
    begins = p.begins;
    reads = λ at row l e s.
        let e₁ = subst (λ x. From h at (x ++ l)) (group_begins m g).1 e in
        byte_known h _ e₁ (passed _ _ refl (passed _ _ refl (passed _ _ refl (passed _ _ refl (taken _ _ refl (p.reads at row l e s))))));
  }

  -- ---- schemas and fixed arrays

  -- one item or more, between the opening and the closing mark
  enclosed_again : (o : Opening) (at₀ : ℕ) {item : Reader} {f g : Forest} {k due : Bool} → Members k due (f ⊕ g) → among closers (closes o) ≡ true
      → Reading m h most closers item f → Chain m h most closers item g → (at row : ℕ) (l : List ℕ)
      → From h (at + 1) (house m (f ⊕ g) ++ closes o ∷ l) → row + suc (size (f ⊕ g)) ≤ most
      → Succeeds (λ r. CopyAt m h at (Schemas.group (group_kind o) o at₀ (f ⊕ g)) r.0 × From h r.1 l) (Schemas.enclosed h rows_lent (group_kind o) o item at row)
  unfolding Schemas.enclosed Schemas.group
  enclosed_again o at₀ u t p c at row l e s = after (chain_some m h most (closes o) t p c (at + 1) (row + 1) l e (omega arith)) λ r hr.
      succeeds (copy_at refl (group_same m h o at₀ at u hr.0.same) hr.0.stand, from_past h (closes o ∷ []) hr.1)

  pub fixed_again : (kind : Reader) (at₀ : ℕ) {f g : Forest} → Members false false (f ⊕ g) → Reading m h most closers kind f → Chain m h most closers kind g
      → Reading m h most closers (Schemas.fixed h rows_lent kind) (Schemas.group (group_kind bracket) bracket at₀ (f ⊕ g))
  unfolding Schemas.group token house opens closes Schemas.fixed size among closers
  fixed_again kind at₀ {f} {g} u p c = alone_reading m h most (record { head = '['; tail = _; split = refl; fits = refl }) λ at row l e s.
      let e₁ : From h at (opens bracket ∷ (house m (f ⊕ g) ++ closes bracket ∷ l)) = subst (λ x. From h at (opens bracket ∷ x)) (append_assoc (house m (f ⊕ g)) _ l) e in
      let o : Begins closers (house m (f ⊕ g)) = rw (house_append m f g) (begins_append (house m g) p.begins) in
      row_known h rows_lent at row (omega arith) (byte_known h _ (begun m h most o _ (from_past h (opens bracket ∷ []) e₁))
      (guard_known _ _ _ (ap not (differs closers o.head '$' refl o.fits))
      (enclosed_again bracket at₀ u refl p c at row l (from_past h (opens bracket ∷ []) e₁) (omega arith))))

  pub schema_again : (kind : Reader) (at₀ : ℕ) {f g : Forest} → Members true false (f ⊕ g) → Reading m h most closers (Scalars.key h rows_lent ⨾ kind) f
      → Chain m h most closers (Scalars.key h rows_lent ⨾ kind) g → Reading m h most closers (Schemas.schema h rows_lent kind) (Schemas.group (group_kind brace) brace at₀ (f ⊕ g))
  unfolding Schemas.group token house opens closes Schemas.schema size among closers
  schema_again kind at₀ {f} {g} u p c = alone_reading m h most (record { head = opens brace; tail = _; split = refl; fits = refl }) λ at row l e s.
      let e₁ : From h at (opens brace ∷ (house m (f ⊕ g) ++ closes brace ∷ l)) = subst (λ x. From h at (opens brace ∷ x)) (append_assoc (house m (f ⊕ g)) _ l) e in
      row_known h rows_lent at row (omega arith) (enclosed_again brace at₀ u refl p c at row l (from_past h (opens brace ∷ []) e₁) (omega arith))
