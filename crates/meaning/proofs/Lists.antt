-- Arrays and objects in house form, which are counted and untyped, are read again as the same. Assumes nothing.
use Prim.Native.Nat.{ℕ, suc, ◌+◌, ◌≤◌}
use mathlib.Core.Path.{◌≡◌, refl, sym, subst, ◌∙◌}
use mathlib.Core.Bool.{true, false, false≢true}
use mathlib.Core.List.{List, [], ◌∷◌, ◌++◌, append_assoc}
use native.Mathlib.Omega.{arith}
use Rattle.format.specs.Grammars.{Grammar}
use Rattle.format.specs.Conditions.{when◌then◌else◌, among}
use Rattle.format.specs.Limits.{limit}
use Rattle.format.specs.Marks.{Opening, bracket, brace, opens, is_scalar, integers, types, '#'}
use Rattle.format.specs.Tokens.{kind_number, Forest, size, members}
use Rattle.format.specs.HouseForm.{small_integer, token, house}
use Rattle.format.specs.SameMeaning.{free, has_bytes, has_id}
use Rattle.format.specs.Sequences.{Reader, spaced}
use Rattle.format.specs.Containers as Containers
use Rattle.format.specs.Read as Read
use Rattle.meaning.proofs.Same.{Same, nothing, one, same_members}
use Rattle.meaning.proofs.Known.{Succeeds, succeeds, after, taken, passed, From, from_past, byte_known, row_known, integer_known}
use Rattle.meaning.proofs.Chains.{closers, CopyAt, copy_at, Reading, Chain, alone_reading, chain_repeat, members_few}

-- a container's place, payload and extent may differ, and its bytes don't count
list_free : (o : Opening) → (among (free (kind_number (Containers.container_kind o))) 3 ≡ true) × (among (free (kind_number (Containers.container_kind o))) 4 ≡ true)
    × (has_bytes (kind_number (Containers.container_kind o)) ≡ false) × (has_id (kind_number (Containers.container_kind o)) ≡ false)
unfolding free has_bytes among when◌then◌else◌ Containers.container_kind
list_free bracket = (refl, refl, refl, refl)
list_free brace = (refl, refl, refl, refl)

module _ (m h : List ℕ) where
  list_same : (o : Opening) (at at' start start' end end' : ℕ) {under under' : Forest} → Same m h under under'
      → Same m h (Containers.container o at start end under) (Containers.container o at' start' end' under')
  unfolding Containers.container
  list_same o at at' start start' end end' s = one (record {
    kinds = refl;
    marks = λ _. refl;
    payloads = λ c. absurd (false≢true (sym c ∙ (list_free o).0));
    extents = λ c. absurd (false≢true (sym c ∙ (list_free o).1));
    counted = same_members m h s;
    orders = refl;
    contents = λ b. absurd (false≢true (sym (list_free o).2 ∙ b));
    ids = λ b. absurd (false≢true (sym (list_free o).3 ∙ b));
  }) s nothing

module _ (m h : List ℕ) (rows_lent : ℕ) (grammar : Grammar) (most : ℕ) (lent : most ≤ rows_lent) (few : most ≤ limit) where
  -- what reads a value with so many levels left
  abbrev value_at : ℕ → Reader
  value_at levels = Read.value_by h rows_lent grammar (Read.nested h rows_lent grammar levels)

  -- the opening mark of a container
  pub enter : {P : Forest × ℕ → Type 0} (levels : ℕ) (o : Opening) (at row : ℕ) (l : List ℕ) → From h at (opens o ∷ l)
      → Succeeds P (Containers.container_by h rows_lent (value_at levels) o at row) → Succeeds P (value_at (suc levels) at row)
  unfolding Read.value_by Read.nested opens is_scalar types integers among
  enter levels bracket at row l e k = byte_known h _ e (passed _ _ refl (passed _ _ refl (passed _ _ refl (taken _ _ refl k))))
  enter levels brace at row l e k = byte_known h _ e (passed _ _ refl (passed _ _ refl (passed _ _ refl (passed _ _ refl (taken _ _ refl k)))))

  pub opens_begins : (o : Opening) → among closers (opens o) ≡ false
  unfolding closers among opens
  opens_begins bracket = refl
  opens_begins brace = refl

  list_reads : (levels : ℕ) (o : Opening) (at₀ start end : ℕ) {under : Forest} → Chain m h most closers (spaced h (Containers.items h rows_lent o (value_at levels))) under
      → (at row : ℕ) (l : List ℕ) → From h at (opens o ∷ '#' ∷ (small_integer (members under) ++ (house m under ++ l))) → row + suc (size under) ≤ most
      → Succeeds (λ r. CopyAt m h at (Containers.container o at₀ start end under) r.0 × From h r.1 l) (value_at (suc levels) at row)
  unfolding Containers.container_by Containers.counted Containers.container
  list_reads levels o at₀ start end {under} c at row l e s =
      let u : members under ≤ limit = let x = members_few under in omega arith in
      enter levels o at row _ e (row_known h rows_lent at row (omega arith) (byte_known h _ (from_past h (opens o ∷ []) e) (passed _ _ refl (taken _ _ refl
      (integer_known h (members under) u _ (from_past h (opens o ∷ '#' ∷ []) e) λ next e₂.
      after (chain_repeat m h most c next (row + 1) l e₂ (omega arith)) λ r hr.
      succeeds (copy_at refl (list_same m h o at₀ at start next end r.1 hr.0.same) hr.0.stand, hr.1))))))

  pub list_again : (levels : ℕ) (o : Opening) (at₀ start end : ℕ) {under : Forest} → Chain m h most closers (spaced h (Containers.items h rows_lent o (value_at levels))) under
      → Reading m h most closers (value_at (suc levels)) (Containers.container o at₀ start end under)
  unfolding Containers.container token house size opens Containers.container_kind
  list_again levels bracket at₀ start end {under} c = alone_reading m h most (record { head = opens bracket; tail = _; split = refl; fits = opens_begins bracket }) λ at row l e s.
      list_reads levels bracket at₀ start end c at row l (subst (λ x. From h at (opens bracket ∷ '#' ∷ x)) (append_assoc (small_integer (members under)) _ l) e) (omega arith)
  list_again levels brace at₀ start end {under} c = alone_reading m h most (record { head = opens brace; tail = _; split = refl; fits = opens_begins brace }) λ at row l e s.
      list_reads levels brace at₀ start end c at row l (subst (λ x. From h at (opens brace ∷ '#' ∷ x)) (append_assoc (small_integer (members under)) _ l) e) (omega arith)
