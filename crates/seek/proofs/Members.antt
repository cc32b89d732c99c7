-- A walk over a container and over a member, by what its start is. Assumes nothing.
use Prim.Native.Nat.{ℕ, ◌+◌}
use mathlib.Core.Path.{◌≡◌, refl, sym, ◌∙◌}
use mathlib.Core.Bool.{Bool, true, false}
use mathlib.Core.List.{List}
use native.Mathlib.Omega.{arith}
use lib.ListN.{length}
use Rattle.format.specs.Grammars.{Grammar}
use Rattle.format.specs.Conditions.{when◌then◌else◌}
use Rattle.format.specs.Outcome.{Outcome, Parsed, fault, done, ◌>>=◌}
use Rattle.format.specs.Marks.{Opening, bracket, brace}
use Rattle.format.specs.Tokens.{Forest, none, size, ◌⊕◌}
use Rattle.format.specs.Rows.{Ancestry}
use Rattle.format.specs.Bytes.{byte, skip}
use Rattle.format.specs.Sequences.{Reader, ◌⨾◌, spaced}
use Rattle.format.specs.Scalars.{key}
use Rattle.format.specs.Containers.{container, items}
use Rattle.format.specs.Read.{value_by}
use Rattle.format.proofs.Forests.{append_none}
use Rattle.laws.proofs.Holds.{refused, holds, of_done}
use Rattle.tokens.specs.Answers.{Laid, onto}
use Rattle.containers.specs.Lists.{closed}
use Rattle.items.specs.Items.{Opened}
use Rattle.seek.specs.Walks.{Comes, Walks}
use Rattle.std.specs.Prelude.{Result, Ok}
use Rattle.seek.specs.declared.steps.Past.{Past}
use Rattle.seek.specs.declared.steps.Stop.{Stop}
use Rattle.seek.proofs.Tableless.{Tableless, empty, no_tables, container_no_table, tableless_kept, items_kept}
use Rattle.seek.proofs.Back.{no_fault, bind_back, parts}
use Rattle.seek.proofs.Walking.{comes_on, comes_under, passed_none}

-- over what a container holds, and so over the container
pub closed_walks : (r : Result Past Stop) (m : List ℕ) (opening : Opening) (at start shut row left : ℕ) (o : Parsed Forest)
    → ((f : Forest) (end : ℕ) → o ≡ done (f, end) → Comes r m (row + 1) left f (end + shut)) → Walks r m row left (closed opening at start shut o)
unfolding closed container ◌>>=◌
closed_walks r m opening at start shut row left (fault n p) w f next e = no_fault (fault n p) n p (f, next) refl e
closed_walks r m opening at start shut row left (done u) w f next e =
    let q = parts e in
    rw (← q.0, ← q.1) (comes_under m r row left _ u.0 (u.1 + shut) (container_no_table opening) (w u.0 u.1 refl))

-- over what remains, after tokens with no table
onto_walks : (r : Result Past Stop) (m : List ℕ) (row row' left : ℕ) (f : Forest) (o : Parsed Forest) → Tableless f → row' ≡ row + size f
    → Walks r m row' left o → Walks r m row left (onto f o)
unfolding onto ◌>>=◌
onto_walks r m row row' left f (fault n p) t h w g next e = no_fault (fault n p) n p (g, next) refl e
onto_walks r m row row' left f (done u) t h w g next e =
    let q = parts e in
    rw (← q.0, ← q.1) (comes_on m r row left left f u.0 u.1 (rw (no_tables t row) (omega arith)) (rw (← h) (w u.0 u.1 refl)))

-- ---- what is read though no container is, is read whatever reads a container

abbrev never : Opening → Reader
never opening at row = fault 0 0

bind_same : {A B : Type 0} (o : Outcome A) (k l : A → Outcome B) (b : B) → ((a : A) → k a ≡ done b → l a ≡ done b) → (o >>= k) ≡ done b → (o >>= l) ≡ done b
unfolding ◌>>=◌
bind_same (fault n p) k l b h e = e
bind_same (done a) k l b h e = h a e

first_same : {A B : Type 0} (o o' : Outcome A) (k : A → Outcome B) (b : B) → ((a : A) → o ≡ done a → o' ≡ done a) → (o >>= k) ≡ done b → (o' >>= k) ≡ done b
unfolding ◌>>=◌
first_same o o' k b h e = let q = bind_back o k b e in rw (h q.0 q.1) q.2

if_same : {A : Type 0} (c : Bool) (o x y : Outcome A) (a : A) → (x ≡ done a → y ≡ done a) → (when c then o else x) ≡ done a → (when c then o else y) ≡ done a
unfolding when◌then◌else◌
if_same true o x y a h e = e
if_same false o x y a h e = h e

never_same : {A : Type 0} (c : Bool) (o x y : Outcome A) (a : A) → (x ≡ done a → y ≡ done a) → (when c then fault 0 0 else x) ≡ done a → (when c then o else y) ≡ done a
unfolding when◌then◌else◌
never_same true o x y a h e = no_fault (fault 0 0) 0 0 a refl e
never_same false o x y a h e = h e

module _ (m : List ℕ) (lent : ℕ) (grammar : Grammar) (nested : Opening → Reader) where
  value_same : (at row : ℕ) (r : Forest × ℕ) → value_by m lent grammar never at row ≡ done r → value_by m lent grammar nested at row ≡ done r
  unfolding value_by
  value_same at row r = bind_same (byte m at) _ _ r λ mark. if_same _ _ _ _ r (if_same _ _ _ _ r (if_same _ _ _ _ r (never_same _ _ _ _ r (never_same _ _ _ _ r λ e. e))))

  items_same : (o : Opening) (at row : ℕ) (r : Forest × ℕ) → items m lent o (value_by m lent grammar never) at row ≡ done r → items m lent o (value_by m lent grammar nested) at row ≡ done r
  unfolding items spaced ◌⨾◌
  items_same bracket at row r = value_same at row r
  items_same brace at row r = bind_same (key m lent at row) _ _ r λ f. first_same _ _ _ r (value_same (skip m f.1) (row + size f.0))

-- ---- a member

module _ (m : List ℕ) (grammar : Grammar) (opening : Opening) (at row : ℕ) where
  abbrev pub member : (Opening → Reader) → Parsed Forest
  member nested = items m (length m) opening (value_by m (length m) grammar nested) at row

  -- it is read whole
  pub member_past : (next row' left : ℕ) (ancestry : Ancestry) (before after : List ℕ) → ((nested : Opening → Reader) → Laid (member nested) row 1 ancestry before after next row')
      → (nested : Opening → Reader) → Walks (Ok (record { at = next; row = row'; left = left })) m row left (member nested)
  member_past next row' left ancestry before after h nested f end e =
      let l = h never in
      let q = parts (sym (items_same m (length m) grammar nested opening at row _ l.read) ∙ e) in
      let t = of_done (l.forest, next) (items_kept m (length m) grammar tableless_kept never (λ o at row. refused λ _. tt) opening at row) l.read in
      rw (← q.0, ← q.1) (passed_none m row left l.forest next row' t l.took)

  -- a container opens, after a key in an object
  pub member_opens : (r : Result Past Stop) (left : ℕ) (ancestry : Ancestry) (before after : List ℕ) (o : Opening) (here row' : ℕ) → Opened member row ancestry before after o here row'
      → (nested : Opening → Reader) → Walks r m row' left (nested o here row') → Walks r m row left (member nested)
  unfolding onto ◌>>=◌
  member_opens r left ancestry before after o here row' h nested w =
      let blank : Opening → Reader = λ _ at _. done (none, at) in
      let t = of_done (h.forest ⊕ none, here) (items_kept m (length m) grammar tableless_kept blank (λ o at row. holds empty) opening at row) (h.is blank) in
      rw (h.is nested) (onto_walks r m row row' left h.forest (nested o here row') (rw (append_none h.forest) at t) h.took w)
