-- How a walk goes on: over what was passed, into a container, and over members one after another. Assumes nothing.
use Prim.Native.Nat.{ℕ, suc, ◌+◌, ◌≤◌}
use mathlib.Core.Path.{◌≡◌, refl, sym, ◌∙◌}
use mathlib.Core.Bool.{false}
use mathlib.Core.List.{List, append-nil}
use native.Mathlib.Omega.{arith}
use lib.ListN.{length}
use Rattle.format.specs.Conditions.{when◌then◌else◌}
use Rattle.format.specs.Outcome.{Parsed, done}
use Rattle.format.specs.Marks.{Opening}
use Rattle.format.specs.Tokens.{Token, table as kind_of_table, is_kind, Forest, none, node, size, ◌⊕◌}
use Rattle.format.specs.Sequences.{Reader}
use Rattle.format.specs.Panel as Panel
use Rattle.format.specs.Panel.{tables, pick}
use Rattle.format.proofs.Forests.{⊕-assoc, size_append}
use Rattle.seek.specs.Tables.{Found}
use Rattle.seek.specs.Walks.{Passed, Comes, PastWithin}
use Rattle.std.specs.Prelude.{Result, Ok, Err}
use Rattle.seek.specs.declared.steps.Past.{Past}
use Rattle.seek.specs.declared.steps.Stop.{Stop}
use Rattle.seek.specs.declared.steps.Stop.TheVariants.{Unread, Found as AtTable}
use Rattle.seek.proofs.Picking.{tables_append, tables-length, pick_first, pick_past}
use Rattle.seek.proofs.Tableless.{Tableless, empty, no_tables}
use Rattle.seek.proofs.Back.{Both}

-- what ends from a place on ends from every place before it on
pub within_from : (s : Result Past Stop) (low low' high : ℕ) → low' ≤ low → PastWithin s low high → PastWithin s low' high
within_from (Ok p) low low' high h w = omega arith
within_from (Err s) low low' high h w = tt

module _ (m : List ℕ) where
  -- what is found in a list is found where another picks the same
  found_as : {opening : Opening} {first row left : ℕ} {ts : List Panel.Table} (h : Found m ts left opening first row) (us : List Panel.Table) (k : ℕ)
      → pick us k ≡ done h.table → Found m us k opening first row
  found_as h us k e = record { table = h.table; picked = e; begins = h.begins; stands = h.stands; end = h.end; read = h.read }

  -- with others after it, and after what was passed
  pub found_first : {opening : Opening} {first row' : ℕ} (row left : ℕ) (f g : Forest) → Found m (tables row f) left opening first row'
      → Found m (tables row (f ⊕ g)) left opening first row'
  found_first row left f g h = found_as h _ left (rw (tables_append row f g) (pick_first _ _ _ _ h.picked))

  pub found_later : {opening : Opening} {first row' : ℕ} (row left left' : ℕ) (f g : Forest) → left ≡ length (tables row f) + left'
      → Found m (tables (row + size f) g) left' opening first row' → Found m (tables row (f ⊕ g)) left opening first row'
  found_later row left left' f g e h =
      found_as h _ left (rw (tables_append row f g, e) (pick_past (tables row f) (tables (row + size f) g) left' ∙ h.picked))

  pub comes_on : (s : Result Past Stop) (row left left' : ℕ) (f g : Forest) (next : ℕ) → left ≡ length (tables row f) + left'
      → Comes s m (row + size f) left' g next → Comes s m row left (f ⊕ g) next
  comes_on (Err Unread) row left left' f g next e c = c
  comes_on (Ok p) row left left' f g next e c =
      record { ended = c.ended; took = omega (arith, c.took, size_append f g); fewer = omega (arith, c.fewer, tables-length row f g) }
  comes_on (Err (AtTable t)) row left left' f g next e c = found_later row left left' f g e c

  -- tokens with no table are passed
  pub passed_none : (row left : ℕ) (f : Forest) (next row' : ℕ) → Tableless f → row' ≡ row + size f → Passed row left f next next row' left
  passed_none row left f next row' p e = record { ended = refl; took = e; fewer = rw (no_tables p row) (omega arith) }

  -- over those below a token that is no table
  under_is : (row : ℕ) (t : Token) (below : Forest) → is_kind kind_of_table t.kind ≡ false → tables row (node t below none) ≡ tables (row + 1) below
  unfolding tables when◌then◌else◌
  under_is row t below e = let q : row + 1 ≡ suc row = omega arith in rw (e, q) (append-nil (tables (suc row) below))

  pub comes_under : (s : Result Past Stop) (row left : ℕ) (t : Token) (below : Forest) (next : ℕ) → is_kind kind_of_table t.kind ≡ false
      → Comes s m (row + 1) left below next → Comes s m row left (node t below none) next
  unfolding size
  comes_under (Err Unread) row left t below next e c = c
  comes_under (Ok p) row left t below next e c =
      record { ended = c.ended; took = omega (arith, c.took); fewer = rw (under_is row t below e) c.fewer }
  comes_under (Err (AtTable k)) row left t below next e c = rw (under_is row t below e) c

-- ---- members one after another

-- of the tokens of a loop, some are passed, and what remains gives the others
pub record Ahead (first number : ℕ) (f : Forest) (end : ℕ) (remains : Parsed Forest) (row left : ℕ) : Type 0 where
  pub before : Forest
  pub rest : Forest
  pub gives : remains ≡ done (rest, end)
  pub whole : f ≡ before ⊕ rest
  pub took : row ≡ first + size before
  pub fewer : number ≡ length (tables first before) + left

pub ahead_start : (first number : ℕ) (f : Forest) (end : ℕ) (o : Parsed Forest) → o ≡ done (f, end) → Ahead first number f end o first number
unfolding ◌⊕◌ size tables
ahead_start first number f end o e = record { before = none; rest = f; gives = e; whole = refl; took = omega arith; fewer = omega arith }

module _ {first number : ℕ} {f : Forest} {end : ℕ} {remains : Parsed Forest} {row left : ℕ} (a : Ahead first number f end remains row left) where
  -- a walk over what remains is a walk over all
  pub ahead_comes : (m : List ℕ) (s : Result Past Stop) (next : ℕ) → Comes s m row left a.rest next → Comes s m first number f next
  ahead_comes m s next c = rw a.whole (comes_on m s first number left a.before a.rest next a.fewer (rw (← a.took) c))

  -- nothing remains
  pub ahead_end : (m : List ℕ) (next place : ℕ) → a.rest ≡ none → place ≡ next → Passed first number f next place row left
  unfolding size
  ahead_end m next place e q = ahead_comes m (Ok (record { at = place; row = row; left = left })) next (rw (e, q) (passed_none m row left none next row empty (omega arith)))

  module _ (m : List ℕ) (item other : Reader) (at : ℕ) (b : Both item other at row a.rest end) where
    -- one more is passed
    pub ahead_step : (q : Past) → Passed row left b.first b.next q.at q.row q.left → Ahead first number f end (other q.at q.row) q.row q.left
    ahead_step q p =
        record {
          before = a.before ⊕ b.first;
          rest = b.rest;
          gives = rw (p.ended, p.took) b.others;
          whole = a.whole ∙ rw b.whole (sym (⊕-assoc a.before b.first b.rest));
          took = omega (arith, p.took, a.took, size_append a.before b.first);
          fewer = omega (arith, a.fewer, rw a.took at p.fewer, tables-length first a.before b.first);
        }

    -- the walk ends in the next
    pub ahead_stop : (s : Stop) → Comes (Err s) m row left b.first b.next → (next : ℕ) → Comes (Err s) m first number f next
    ahead_stop Unread c next = absurd c
    ahead_stop (AtTable t) c next =
        rw a.whole (found_later m first number left a.before a.rest a.fewer (rw (← a.took, b.whole) (found_first m row left b.first b.rest c)))
