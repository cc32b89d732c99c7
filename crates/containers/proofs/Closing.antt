-- An array's or object's row over what it holds. Assumes nothing.
use Prim.Native.Nat.{ℕ, ◌+◌, ◌-◌}
use mathlib.Core.Path.{◌≡◌, refl, ◌∙◌}
use mathlib.Core.List.{List}
use native.Mathlib.Nat.{add-zero}
use Rattle.format.specs.Conditions.{when◌then◌else◌}
use Rattle.format.specs.Outcome.{Outcome, Parsed, fault, done, ◌>>=◌}
use Rattle.format.specs.Marks.{Opening, bracket, brace, opens}
use Rattle.format.specs.Tokens.{Token, is_kind, plain_count, Forest, none, node, members}
use Rattle.format.specs.Rows.{Ancestry, held_by, row_of}
use Rattle.format.specs.Integers.{integer}
use Rattle.format.specs.Sequences.{Reader, repeat}
use Rattle.format.specs.Containers.{container_kind, container, counted}
use Rattle.rows.specs.Row.{store}
use Rattle.tokens.specs.Answers.{Laid}
use Rattle.tokens.proofs.Laying.{laid_over}
use Rattle.containers.specs.Lists.{closed}

-- its token, where what it holds ends at `end` and has so many members
abbrev pub holder : Opening → ℕ → ℕ → ℕ → ℕ → Token
holder opening at start end count =
    record { kind = container_kind opening; mark = opens opening; first = at; payload = start; extent = end - start; count = count; order = plain_count }

one_member : (opening : Opening) (at start end count : ℕ) (f : Forest) → members (node (holder opening at start end count) f none) ≡ 1
unfolding members is_kind container_kind when◌then◌else◌
one_member bracket at start end count f = refl
one_member brace at start end count f = refl

pub laid_closed : (opening : Opening) (at start shut : ℕ) (o : Parsed Forest) (row count end row' : ℕ) (ancestry : Ancestry) (before mid now : List ℕ)
    → Laid o (row + 1) count (held_by row ancestry) before mid end row' → now ≡ store mid row (row_of (holder opening at start end count) row' ancestry)
    → Laid (closed opening at start shut o) row 1 ancestry before now (end + shut) row'
unfolding closed ◌>>=◌ container
laid_closed opening at start shut o row count end row' ancestry before mid now l e =
    let r = laid_over (holder opening at start end count) o row count end row' (end + shut) ancestry before mid now l e in
    rw (l.read, l.counted) (rw (one_member opening at start end count l.forest) at r)

-- ---- a counted container

bind_same : {A B : Type 0} (o : Outcome A) (f g : A → Outcome B) → ((a : A) → f a ≡ g a) → (o >>= f) ≡ (o >>= g)
unfolding ◌>>=◌
bind_same (fault n p) f g h = refl
bind_same (done a) f g h = h a

module _ (m : List ℕ) (lent : ℕ) (o : Opening) (item : Reader) (from at row : ℕ) where
  pub counted-fault : (n p : ℕ) → integer m from ≡ fault n p → counted m lent o item from at row ≡ fault n p
  unfolding counted ◌>>=◌
  counted-fault n p e = rw e

  over_members : (n start : ℕ) → integer m from ≡ done (n, start)
      → counted m lent o item from at row ≡ (repeat n item start (row + 1) >>= (λ r. done (container o at start r.1 r.0, r.1)))
  unfolding counted ◌>>=◌
  over_members n start e = rw e

  -- there is no closing mark
  pub counted-closed : (n start : ℕ) → integer m from ≡ done (n, start) → counted m lent o item from at row ≡ closed o at start 0 (repeat n item start (row + 1))
  unfolding closed
  counted-closed n start e = over_members n start e ∙ bind_same (repeat n item start (row + 1)) _ _ (λ r. rw (add-zero r.1))
