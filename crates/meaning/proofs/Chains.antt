-- Tokens in house form that are read again as the same, wherever they stand; and any number of them, side by side. Assumes nothing.
use Prim.Native.Nat.{ℕ, zero, suc, ◌+◌, ◌≤◌, ◌<◌}
use mathlib.Core.Path.{◌≡◌, refl, sym, ap, subst, ◌∙◌}
use mathlib.Core.Bool.{Bool, true, false, false≢true}
use mathlib.Core.List.{List, [], ◌∷◌, ◌++◌, append_assoc, append-nil}
use native.Mathlib.Omega.{arith}
use lib.ListN.{length, drop, length-append}
use lib.Dec.{eqb}
use borrow.Author.Tests.{eqb-true, eqb-false, eq-eqb}
use Rattle.format.specs.Conditions.{when◌then◌else◌, among}
use Rattle.format.specs.Marks.{'N', '#', '$', ']', right_brace}
use Rattle.format.specs.Tokens.{Token, is_kind, key as kind_of_key, Forest, none, node, size, ◌⊕◌, members}
use Rattle.format.specs.HouseForm.{Written, whole, token, written, house}
use Rattle.format.specs.Sequences.{Reader, ◌⨾◌, repeat, until, spaced}
use Rattle.format.specs.Dimensions as Dimensions
use Rattle.format.proofs.Forests.{size_append, members_append}
use Rattle.meaning.specs.Standing.{AllStand, no_token, next_token}
use Rattle.meaning.proofs.Same.{Same, nothing, same_size, same_append, same_written}
use Rattle.meaning.proofs.Known.{Succeeds, succeeds, after, better, taken, passed, From, from_length, from_past, byte_known, spaced_known}

-- ---- what is written of forests

-- one forest is written, and then the other
pub house_append : (m : List ℕ) (f g : Forest) → house m (f ⊕ g) ≡ house m f ++ house m g
unfolding house written whole ◌⊕◌
house_append m none g = refl
house_append m (node t below after) g =
    ap (λ x. token m t.kind t (written m below) ++ x) (house_append m after g)
    ∙ sym (append_assoc (token m t.kind t (written m below)) (house m after) (house m g))

-- a token with nothing after it is written by itself
house_alone : (m : List ℕ) (t : Token) (below : Forest) → house m (node t below none) ≡ token m t.kind t (written m below)
unfolding house written whole
house_alone m t below = append-nil (token m t.kind t (written m below))

-- no more members than tokens
pub members_few : (f : Forest) → members f ≤ size f
unfolding members size when◌then◌else◌
members_few none = omega arith
members_few (node t below after) = go (is_kind kind_of_key t.kind) (members_few after)
  where
    go : (b : Bool) → members after ≤ size after → (when b then 0 else 1) + members after ≤ suc (size below + size after)
    go true h = omega arith
    go false h = omega arith

-- ---- what they begin with

-- no value, key, kind or dimension begins with one of these
unfoldable pub closers : List ℕ
closers = 'N' ∷ '#' ∷ '$' ∷ ']' ∷ right_brace ∷ []

-- bytes that begin with one that is none of these
pub record Begins (bad x : List ℕ) : Type 0 where
  pub head : ℕ
  pub tail : List ℕ
  pub split : x ≡ head ∷ tail
  pub fits : among bad head ≡ false

-- with others after them too
pub begins_append : {bad x : List ℕ} (y : List ℕ) → Begins bad x → Begins bad (x ++ y)
begins_append y o = record { head = o.head; tail = o.tail ++ y; split = ap (λ x. x ++ y) o.split; fits = o.fits }

-- what is none of these isn't one of them
pub differs : (bad : List ℕ) (b c : ℕ) → among bad c ≡ true → among bad b ≡ false → eqb b c ≡ false
differs bad b c t n = go (eqb b c) refl
  where
    go : (x : Bool) → eqb b c ≡ x → x ≡ false
    go true e = absurd (false≢true (sym n ∙ ap (among bad) (eqb-true b c e) ∙ t))
    go false e = refl

-- ---- what they are read as

all_append : {h : List ℕ} {f g : Forest} → AllStand h f → AllStand h g → AllStand h (f ⊕ g)
unfolding ◌⊕◌
all_append no_token q = q
all_append (next_token s u p) q = next_token s u (all_append p q)

-- tokens of the message h that are the same as those of m, and stand in h as they are written
pub record Copy (m h : List ℕ) (f g : Forest) : Type 0 where
  pub same : Same m h f g
  pub stand : AllStand h g

pub no_copy : (m h : List ℕ) → Copy m h none none
no_copy m h = record { same = nothing; stand = no_token }

pub copy_append : {m h : List ℕ} {f f' g g' : Forest} → Copy m h f f' → Copy m h g g' → Copy m h (f ⊕ g) (f' ⊕ g')
copy_append {m} {h} p q = record { same = same_append m h p.same q.same; stand = all_append p.stand q.stand }

-- one such token, with those below it, that starts here
pub data CopyAt (m h : List ℕ) (at : ℕ) (f : Forest) : Forest → Type 0 where
  copy_at : {u : Token} {below : Forest} → u.first ≡ at → Same m h f (node u below none) → AllStand h below → CopyAt m h at f (node u below none)

module _ (m h : List ℕ) (most : ℕ) where
  -- these bytes are read, wherever they stand, as tokens that are the same, while there are at most so many rows
  abbrev pub Reads : Reader → List ℕ → Forest → Type 0
  Reads reader x f = (at row : ℕ) (l : List ℕ) → From h at (x ++ l) → row + size f ≤ most
      → Succeeds (λ r. Copy m h f r.0 × From h r.1 l) (reader at row)

  -- so are these tokens in house form, which begin with none of some bytes
  pub record Reading (bad : List ℕ) (reader : Reader) (f : Forest) : Type 0 where
    pub begins : Begins bad (house m f)
    pub reads : Reads reader (house m f) f

  -- and any number of them, each one member
  pub data Chain (bad : List ℕ) (item : Reader) : Forest → Type 0 where
    stop : Chain bad item none
    link : {f g : Forest} → members f ≡ 1 → Reading bad item f → Chain bad item g → Chain bad item (f ⊕ g)

  -- ---- one after another

  -- the bytes of both, part by part
  pub house_split : {at : ℕ} (f g : Forest) (l : List ℕ) → From h at (house m (f ⊕ g) ++ l) → From h at (house m f ++ (house m g ++ l))
  house_split {at} f g l e = subst (From h at) (ap (λ x. x ++ l) (house_append m f g) ∙ append_assoc (house m f) (house m g) l) e

  -- the first of them, and then what the rest gives, Q of the place after it
  pub seq_same : {first other : Reader} {f g : Forest} (l : List ℕ) (Q : ℕ → Type 0) (at row : ℕ) → Reads first (house m f) f
      → From h at (house m (f ⊕ g) ++ l) → row + size (f ⊕ g) ≤ most
      → ((next row' : ℕ) → From h next (house m g ++ l) → row' + size g ≤ most → Succeeds (λ r. Copy m h g r.0 × Q r.1) (other next row'))
      → Succeeds (λ r. Copy m h (f ⊕ g) r.0 × Q r.1) ((first ⨾ other) at row)
  unfolding ◌⨾◌
  seq_same {f = f} {g = g} l Q at row p e s k =
      after (p at row _ (house_split f g l e) (omega (arith, size_append f g))) λ r hr.
      after (k r.1 (row + size r.0) hr.1 (omega (arith, size_append f g, same_size m h hr.0.same))) λ u hu.
      succeeds (copy_append hr.0 hu.0, hu.1)

  -- one reader, and then another
  pub seq_reads : {first other : Reader} {f g : Forest} → Reads first (house m f) f → Reads other (house m g) g → Reads (first ⨾ other) (house m (f ⊕ g)) (f ⊕ g)
  seq_reads p q at row l e s = seq_same l (λ next. From h next l) at row p e s λ next row' e' s'. q next row' l e' s'

  pub seq_reading : {bad bad' : List ℕ} {first other : Reader} {f g : Forest} → Reading bad first f → Reading bad' other g → Reading bad (first ⨾ other) (f ⊕ g)
  seq_reading {f = f} {g = g} p q = record { begins = rw (house_append m f g) (begins_append (house m g) p.begins); reads = seq_reads p.reads q.reads }

  -- the bytes as they begin
  pub begun : {at : ℕ} {bad x : List ℕ} (o : Begins bad x) (l : List ℕ) → From h at (x ++ l) → From h at (o.head ∷ o.tail ++ l)
  begun {at} o l e = subst (λ y. From h at (y ++ l)) o.split e

  -- `N` may stand before them, and does not
  pub spaced_reading : {bad : List ℕ} {reader : Reader} {f : Forest} → among bad 'N' ≡ true → Reading bad reader f → Reading bad (spaced h reader) f
  spaced_reading {bad} {reader} t p = record {
    begins = p.begins;
    reads = λ at row l e s.
        let o = p.begins in
        spaced_known h reader row (begun o l e) (eqb-false o.head 'N' (differs bad o.head 'N' t o.fits)) (p.reads at row l e s);
  }

  -- a token, with those below it, as it is written: it stands where it starts
  copy_stands : {at : ℕ} {t : Token} {below g : Forest} (l : List ℕ) → From h at (token m t.kind t (written m below) ++ l)
      → CopyAt m h at (node t below none) g → Copy m h (node t below none) g
  unfolding written
  copy_stands {t = t} {below = b} l e (copy_at {u = u} {below = b'} p s q) =
      let x : token m t.kind t (written m b) ≡ token h u.kind u (written h b') = sym (ap (λ (w : Written). w.first) (same_written m h s)) in
      let y : drop u.first h ≡ token h u.kind u (written h b') ++ l = ap (λ n. drop n h) p ∙ e.rest ∙ ap (λ z. z ++ l) x in
      record { same = s; stand = next_token (record { rest = l; stands = y }) q no_token }

  pub alone_reading : {bad : List ℕ} {reader : Reader} {t : Token} {below : Forest} → Begins bad (token m t.kind t (written m below))
      → ((at row : ℕ) (l : List ℕ) → From h at (token m t.kind t (written m below) ++ l) → row + size (node t below none) ≤ most
      → Succeeds (λ r. CopyAt m h at (node t below none) r.0 × From h r.1 l) (reader at row))
      → Reading bad reader (node t below none)
  alone_reading {t = t} {below = below} o r = record {
    begins = rw (house_alone m t below) o;
    reads = λ at row l e s.
        let e₁ : From h at (token m t.kind t (written m below) ++ l) = subst (λ x. From h at (x ++ l)) (house_alone m t below) e in
        better (λ _ k. (copy_stands l e₁ k.0, k.1)) (r at row l e₁ s);
  }

  -- ---- any number

  -- one more member
  one_more : (f g : Forest) → members f ≡ 1 → members (f ⊕ g) ≡ suc (members g)
  one_more f g e = members_append f g ∙ ap (λ n. n + members g) e ∙ omega arith

  -- counted
  pub chain_repeat : {bad : List ℕ} {item : Reader} {f : Forest} → Chain bad item f → Reads (repeat (members f) item) (house m f) f
  unfolding repeat house written whole members
  chain_repeat stop at row l e s = succeeds (no_copy m h, e)
  chain_repeat (link {f = f} {g = g} n p c) at row l e s = rw (one_more f g n) (seq_reads p.reads (λ a r k x y. chain_repeat c a r k x y) at row l e s)

  -- up to a closing mark, with which no item begins
  pub chain_until : {bad : List ℕ} {item : Reader} {f : Forest} (closing fuel : ℕ) → among bad closing ≡ true → Chain bad item f → (at row : ℕ) (l : List ℕ)
      → length h ≤ at + fuel → From h at (house m f ++ closing ∷ l) → row + size f ≤ most
      → Succeeds (λ r. Copy m h f r.0 × From h r.1 (closing ∷ l)) (until h fuel (λ here. here) closing item at row)
  unfolding until house written whole
  chain_until {f = f} closing zero t c at row l q e s = absurd (omega (arith, from_length h at _ e, length-append (house m f) (closing ∷ l)))
  chain_until closing (suc fuel) t stop at row l q e s = byte_known h _ e (taken (eqb closing closing) _ (eq-eqb closing closing refl) (succeeds (no_copy m h, e)))
  chain_until {bad} closing (suc fuel) t (link {f = f} {g = g} n p c) at row l q e s =
      let o = p.begins in
      let e' = house_split f g (closing ∷ l) e in
      byte_known h _ (begun o (house m g ++ closing ∷ l) e') (passed (eqb o.head closing) _ (differs bad o.head closing t o.fits)
      (seq_same (closing ∷ l) (λ next. From h next (closing ∷ l)) at row p.reads e s λ next row' d s'.
      chain_until {f = g} closing fuel t c next row' l
      (omega (arith, from_length h at _ e', from_length h next _ d, length-append (house m f) (house m g ++ closing ∷ l), ap length o.split)) d s'))

  -- dimensions up to `]`, of which so many may be read
  pub chain_listed : {bad : List ℕ} {f : Forest} (rows_lent left place : ℕ) → among bad ']' ≡ true → members f < left → Chain bad (Dimensions.marked h rows_lent) f → (at row : ℕ) (l : List ℕ)
      → From h at (house m f ++ ']' ∷ l) → row + size f ≤ most
      → Succeeds (λ r. Copy m h f r.0 × From h r.1 l) (Dimensions.listed h rows_lent left place at row)
  unfolding Dimensions.listed house written whole
  chain_listed rows_lent zero place t k c at row l e s = absurd (omega arith)
  chain_listed rows_lent (suc left) place t k stop at row l e s = byte_known h _ e (taken (eqb ']' ']') _ refl (succeeds (no_copy m h, from_past h (']' ∷ []) e)))
  chain_listed {bad} rows_lent (suc left) place t k (link {f = f} {g = g} n p c) at row l e s =
      let o = p.begins in
      byte_known h _ (begun o (house m g ++ ']' ∷ l) (house_split f g (']' ∷ l) e)) (passed (eqb o.head ']') _ (differs bad o.head ']' t o.fits)
      (seq_same (']' ∷ l) (λ next. From h next l) at row p.reads e s λ next row' d s'.
      chain_listed {f = g} rows_lent left place t (omega (arith, one_more f g n)) c next row' l d s'))

  -- one or more, up to a closing mark
  pub chain_some : {bad : List ℕ} {item : Reader} {f g : Forest} (closing : ℕ) → among bad closing ≡ true → Reading bad item f → Chain bad item g → (at row : ℕ) (l : List ℕ)
      → From h at (house m (f ⊕ g) ++ closing ∷ l) → row + size (f ⊕ g) ≤ most
      → Succeeds (λ r. Copy m h (f ⊕ g) r.0 × From h r.1 (closing ∷ l)) ((item ⨾ until h (length h) (λ here. here) closing item) at row)
  chain_some closing t p c at row l e s = seq_same (closing ∷ l) (λ next. From h next (closing ∷ l)) at row p.reads e s λ next row' d s'.
      chain_until closing (length h) t c next row' l (omega arith) d s'
