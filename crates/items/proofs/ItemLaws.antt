-- What follows of the items' answers. Assumes nothing.
use Prim.Native.Nat.{ℕ}
use mathlib.Core.Path.{◌≡◌, refl, sym, ap, ◌∙◌}
use mathlib.Core.Bool.{Bool, true, false, true≢false, false≢true}
use mathlib.Core.List.{List}
use native.Mathlib.Omega.{arith}
use Rattle.format.specs.Grammars.{Grammar}
use Rattle.format.specs.Outcome.{Parsed, fault}
use Rattle.format.specs.Marks.{Opening, opening_of}
use Rattle.format.specs.Tokens.{Forest, none, size, ◌⊕◌, members}
use Rattle.format.specs.Rows.{Ancestry, rows}
use Rattle.format.specs.Bytes.{skip}
use Rattle.format.specs.Sequences.{Reader, spaced}
use Rattle.format.specs.Scalars.{key}
use Rattle.format.specs.Containers.{items}
use Rattle.format.specs.Read.{value_by}
use Rattle.format.proofs.Forests.{size_append, members_append}
use Rattle.rows.specs.Overlay.{lay}
use Rattle.tokens.specs.Answers.{onto, Laid, Meets}
use Rattle.std.specs.Prelude.{Result, Ok, Err, IsOkAnd, MatchResult}
use Rattle.format.specs.declared.refusals.Refused.{Refused}
use Rattle.tokens.specs.declared.End.{End}
use Rattle.tokens.proofs.Sofar.{lay_forest, seq_read, seq_fault, onto-none, onto-onto, onto-fault, laid_after, laid_onto}
use Rattle.items.specs.Items.{Opened, ItemMeets}
use Rattle.items.specs.declared.starts.Item.{Item}
use Rattle.items.specs.declared.starts.Item.TheVariants.{Whole, Opens}

-- a value that is read whole, whatever reads a container
pub whole_meets : (s : Result End Refused) (i : Result Item Refused) (o : (Opening → Reader) → Parsed Forest) (p : Parsed Forest) (row : ℕ) (ancestry : Ancestry) (before after : List ℕ)
    → MatchResult s (λ w. IsOkAnd i (λ x. x ≡ Whole w)) (λ r. i ≡ Err r) → ((nested : Opening → Reader) → o nested ≡ p) → Meets s p row 1 ancestry before after
    → ItemMeets i o row ancestry before after
whole_meets (Err r) i o p row ancestry before after m e h = rw m (λ nested. e nested ∙ h)
whole_meets (Ok w) (Ok x) o p row ancestry before after m e h = rw m (λ nested. rw (e nested) h)
whole_meets (Ok w) (Err r) o p row ancestry before after m e h = absurd m

-- a member whose key is read goes on with its value
pub keyed_meets : (r : Result Item Refused) (o value : (Opening → Reader) → Parsed Forest) (a : Parsed Forest) (row next row' : ℕ) (ancestry : Ancestry) (before mid after : List ℕ)
    (l : Laid a row 0 ancestry before mid next row') → ((nested : Opening → Reader) → o nested ≡ onto l.forest (value nested))
    → ItemMeets r value row' ancestry mid after → ItemMeets r o row ancestry before after
keyed_meets (Err r) o value a row next row' ancestry before mid after l e h = λ nested. e nested ∙ onto-fault l.forest (value nested) _ _ (h nested)
keyed_meets (Ok (Whole w)) o value a row next row' ancestry before mid after l e h = λ nested. rw (e nested) (laid_onto l (h nested))
keyed_meets (Ok (Opens b at row'')) o value a row next row' ancestry before mid after l e h =
    let f = l.forest in
    let g = h.forest in
    record {
      forest = f ⊕ g;
      is = λ nested. e nested ∙ ap (onto f) (h.is nested) ∙ onto-onto f g _;
      counted = members_append f g ∙ omega (arith, l.counted, h.counted);
      took = omega (arith, l.took, h.took, size_append f g);
      lie = h.lie ∙ rw (l.lie, l.took) (lay_forest before row ancestry f g);
    }

-- a container that opens right here
pub opened_here : (o : (Opening → Reader) → Parsed Forest) (row : ℕ) (ancestry : Ancestry) (words : List ℕ) (opening : Opening) (at : ℕ)
    → ((nested : Opening → Reader) → o nested ≡ nested opening at row) → Opened o row ancestry words words opening at row
unfolding size members rows lay
opened_here o row ancestry words opening at e =
    record { forest = none; is = λ nested. e nested ∙ sym (onto-none (nested opening at row)); counted = refl; took = omega arith; lie = refl }

-- ---- a member, by what its container opens with

module _ (m : List ℕ) (lent : ℕ) (grammar : Grammar) (at row : ℕ) where
  abbrev pub member : Bool → (Opening → Reader) → Parsed Forest
  member b nested = items m lent (opening_of b) (value_by m lent grammar nested) at row

  pub member_plain : (b : Bool) → b ≡ false → (r : Result Item Refused) (ancestry : Ancestry) (before after : List ℕ)
      → ItemMeets r (λ nested. value_by m lent grammar nested at row) row ancestry before after → ItemMeets r (member b) row ancestry before after
  unfolding items
  member_plain true e r ancestry before after h = absurd (true≢false e)
  member_plain false e r ancestry before after h = h

  pub member-key-fault : (b : Bool) → b ≡ true → (n p : ℕ) → key m lent at row ≡ fault n p → (nested : Opening → Reader) → member b nested ≡ fault n p
  unfolding items
  member-key-fault true e n p h nested = seq_fault _ _ at row n p h
  member-key-fault false e n p h nested = absurd (false≢true e)

  pub member_keyed : (b : Bool) → b ≡ true → (r : Result Item Refused) (next row' : ℕ) (ancestry : Ancestry) (before mid after : List ℕ) → Laid (key m lent at row) row 0 ancestry before mid next row'
      → ItemMeets r (λ nested. value_by m lent grammar nested (skip m next) row') row' ancestry mid after → ItemMeets r (member b) row ancestry before after
  unfolding items spaced
  member_keyed true e r next row' ancestry before mid after l h =
      keyed_meets r (member true) (λ nested. value_by m lent grammar nested (skip m next) row') _ row next row' ancestry before mid after l
      (λ nested. rw l.took (seq_read (key m lent) (spaced m (value_by m lent grammar nested)) at row next l.forest l.read)) h
  member_keyed false e r next row' ancestry before mid after l h = absurd (false≢true e)

-- what reads the container that opens, reads the member
pub opened_meets : (s : Result End Refused) (o : (Opening → Reader) → Parsed Forest) (row : ℕ) (ancestry : Ancestry) (before mid after : List ℕ) (opening : Opening) (at row' : ℕ)
    → Opened o row ancestry before mid opening at row' → (nested : Opening → Reader) → Meets s (nested opening at row') row' 1 ancestry mid after
    → Meets s (o nested) row 1 ancestry before after
opened_meets (Err r) o row ancestry before mid after opening at row' h nested e = h.is nested ∙ onto-fault h.forest _ _ _ e
opened_meets (Ok w) o row ancestry before mid after opening at row' h nested l =
    rw (h.is nested) (laid_after h.forest h.counted h.took h.lie l)
