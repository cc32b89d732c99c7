-- The walk over rows that hold tokens: the first token and the rest; and a token by how it is written. Assumes nothing.
use Prim.Native.Nat.{ℕ, suc, ◌+◌, ◌≤◌, ◌<◌}
use mathlib.Core.Path.{◌≡◌, refl, sym, ap, ◌∙◌}
use mathlib.Core.Bool.{Bool, true, false, true≢false, false≢true}
use mathlib.Core.List.{List, [], ◌++◌}
use native.Mathlib.Omega.{arith}
use native.Mathlib.Numerals.{add-one}
use lib.Dec.{eqb}
use borrow.Author.Tests.{eqb-true}
use Rattle.format.specs.Conditions.{among}
use Rattle.format.specs.Tokens.{Token, kind_number, table, Forest, none, node, size}
use Rattle.format.specs.Rows.{Row, Ancestry, held_by, row_at, row_of}
use Rattle.format.specs.HouseForm.{whole, token, written, house}
use Rattle.storage.specs.Places.{Rowed, no_rows, its_rows}
use Rattle.storage.proofs.Places.{rowed_own, rowed_under, rowed_later}
use Rattle.writer.specs.Pieces.{is_single, single, head, middle, tail}
use Rattle.forests.specs.Formed.{Formed, no_token, a_single, a_nested, a_table}
use Rattle.forests.specs.Held.{Held, HeldToken}

-- ---- a token and the rest

-- written one after another
pub house_front : (m : List ℕ) (t : Token) (below after : Forest) → house m (node t below after) ≡ token m t.kind t (written m below) ++ house m after
unfolding house written whole
house_front m t below after = refl

pub house-none : (m : List ℕ) → house m none ≡ []
unfolding house written whole
house-none m = refl

formed_first : {t : Token} {below after : Forest} → Formed (node t below after) → Formed (node t below none)
formed_first (a_single s a) = a_single s no_token
formed_first (a_nested n b a) = a_nested n b no_token
formed_first (a_table n s d a) = a_table n s d no_token

formed_rest : {t : Token} {below after : Forest} → Formed (node t below after) → Formed after
formed_rest (a_single s a) = a
formed_rest (a_nested n b a) = a
formed_rest (a_table n s d a) = a

rowed_first : {ws : List ℕ} {n : ℕ} {a : Ancestry} {t : Token} {below after : Forest} → Rowed ws n a (node t below after) → Rowed ws n a (node t below none)
rowed_first (its_rows o u l) = its_rows o u no_rows

-- the first token's row, and what is left
pub record Step (ws : List ℕ) (row link stop : ℕ) (r : Row) (f : Forest) : Type 0 where
  pub first : HeldToken ws row link r
  pub rest : Held ws link stop
  pub joins : (m : List ℕ) → house m f ≡ token m first.token.kind first.token (written m first.below) ++ house m rest.tokens
  pub up : row < link
  pub on : link ≤ stop

pub held_step : {ws : List ℕ} {row stop : ℕ} (h : Held ws row stop) (r : Row) (link : ℕ) → row < stop → r ≡ row_at ws row → link ≡ r.link
    → Step ws row link stop r h.tokens
unfolding size row_of
held_step {ws} {row} {stop} h r link l e q = go h.tokens h.formed h.ancestry h.rowed h.ends
  where
    go : (f : Forest) → Formed f → (a : Ancestry) → Rowed ws row a f → stop ≡ row + size f → Step ws row link stop r f
    go none d a w n = absurd (omega arith)
    go (node t below after) d a w n =
        let is : r ≡ row_of t (suc row + size below) a = e ∙ rowed_own w in
        let at : link ≡ suc row + size below = q ∙ ap (λ (x : Row). x.link) is in
        let i = h.inside in
        record {
          first = record {
            token = t;
            below = below;
            formed = formed_first d;
            ancestry = a;
            rowed = rowed_first w;
            row_is = is ∙ ap (λ k. row_of t k a) (sym at);
            ends = at;
            inside = omega arith;
          };
          rest = record {
            tokens = after;
            formed = formed_rest d;
            ancestry = a;
            rowed = rw at (rowed_later w);
            ends = omega arith;
            inside = i;
          };
          joins = λ m. house_front m t below after;
          up = omega arith;
          on = omega arith;
        }

-- ---- a token by how it is written

-- around those below it
pub record Inner (ws : List ℕ) (row link : ℕ) (r : Row) (t : Token) (below : Forest) : Type 0 where
  pub held : Held ws (row + 1) link
  pub form : (m : List ℕ) → token m t.kind t (written m below) ≡ head r ++ house m held.tokens ++ tail m r

-- around a schema, whose rows end at `split`, and dimensions
pub record Outer (ws : List ℕ) (row split link : ℕ) (r : Row) (t : Token) (below : Forest) : Type 0 where
  pub schema : Held ws (row + 1) split
  pub dimensions : Held ws split link
  pub form : (m : List ℕ) → token m t.kind t (written m below) ≡ head r ++ house m schema.tokens ++ middle r ++ house m dimensions.tokens ++ tail m r

module _ (ws : List ℕ) (row link : ℕ) (r : Row) where
  same_single : (t : Token) (a : Ancestry) {b c : Bool} → r ≡ row_of t link a → is_single r.kind ≡ b → is_single (kind_number t.kind) ≡ c → b ≡ c
  unfolding row_of
  same_single t a q e f = sym e ∙ ap (λ (x : Row). is_single x.kind) q ∙ f

  same_table : (t : Token) (a : Ancestry) {b c : Bool} → r ≡ row_of t link a → eqb r.kind (kind_number table) ≡ b → eqb (kind_number t.kind) (kind_number table) ≡ c → b ≡ c
  unfolding row_of
  same_table t a q e f = sym e ∙ ap (λ (x : Row). eqb x.kind (kind_number table)) q ∙ f

  -- whole
  pub token-single : (h : HeldToken ws row link r) → is_single r.kind ≡ true → (m : List ℕ) → token m h.token.kind h.token (written m h.below) ≡ single m r
  token-single h e m = go h.token h.below h.formed h.ancestry h.row_is
    where
      go : (t : Token) (below : Forest) → Formed (node t below none) → (p : Ancestry) → r ≡ row_of t link p → token m t.kind t (written m below) ≡ single m r
      go t none (a_single s a) p q = s.form m link p ∙ ap (single m) (sym q)
      go t below (a_nested n b a) p q = absurd (true≢false (same_single t p q e n.not_alone))
      go t below (a_table n s d a) p q = absurd (true≢false (same_single t p q e n.not_alone))

  pub token_nested : (h : HeldToken ws row link r) → is_single r.kind ≡ false → eqb r.kind (kind_number table) ≡ false → Inner ws row link r h.token h.below
  token_nested h e f = go h.token h.below h.formed h.ancestry h.row_is h.rowed h.ends
    where
      go : (t : Token) (below : Forest) → Formed (node t below none) → (p : Ancestry) → r ≡ row_of t link p → Rowed ws row p (node t below none) → link ≡ suc row + size below → Inner ws row link r t below
      go t none (a_single s a) p q w l = absurd (false≢true (same_single t p q e s.alone))
      go t below (a_nested n b a) p q w l = record {
        held = record { tokens = below; formed = b; ancestry = held_by row p; rowed = rw (add-one row) (rowed_under w); ends = omega arith; inside = h.inside };
        form = λ m. n.form m link p ∙ rw (← q);
      }
      go t below (a_table n s d a) p q w l = absurd (false≢true (same_table t p q f n.is_table))

  table_below : (k : ℕ) → eqb k (kind_number table) ≡ true → is_single k ≡ false
  unfolding is_single among
  table_below k e = rw (eqb-true k (kind_number table) e)

  pub token-table : (h : HeldToken ws row link r) → eqb r.kind (kind_number table) ≡ true → (split : ℕ) → split ≡ (row_at ws (row + 1)).link
      → Outer ws row split link r h.token h.below
  unfolding row_of size
  token-table h f split p = go h.token h.below h.formed h.ancestry h.row_is h.rowed h.ends
    where
      go : (t : Token) (below : Forest) → Formed (node t below none) → (b : Ancestry) → r ≡ row_of t link b → Rowed ws row b (node t below none) → link ≡ suc row + size below → Outer ws row split link r t below
      go t none (a_single s a) b q w l = absurd (false≢true (same_single t b q (table_below r.kind f) s.alone))
      go t below (a_nested n c a) b q w l = absurd (true≢false (same_table t b q f n.no_table))
      go t (node s fields dims) (a_table n c d a) b q w l =
          let x = rowed_own (rowed_under w) in
          let at : split ≡ suc (suc row) + size fields = p ∙ rw (add-one row) (ap (λ (y : Row). y.link) x) in
          let i = h.inside in
          record {
            schema = record { tokens = node s fields none; formed = c; ancestry = held_by row b; rowed = rw (add-one row) (rowed_first (rowed_under w)); ends = omega arith; inside = omega arith };
            dimensions = record { tokens = dims; formed = d; ancestry = held_by row b; rowed = rw at (rowed_later (rowed_under w)); ends = omega arith; inside = i };
            form = λ m. n.form m link b ∙ rw (← q);
          }
