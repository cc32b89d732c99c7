-- The walk over members: what the definition gives from a key on is what it gives from the start. Assumes nothing.
use Prim.Native.Nat.{ℕ, zero, suc, ◌+◌, ◌-◌, ◌≤◌, ◌<◌}
use mathlib.Core.Path.{◌≡◌, refl, sym, subst, ◌∙◌}
use mathlib.Core.Bool.{Bool, true, false}
use mathlib.Core.List.{List}
use native.Mathlib.Omega.{arith}
use lib.ListN.{length}
use lib.Dec.{ltb}
use borrow.Author.Tests.{le-leb, lt-leb, ltb-true, lt-ltb, le-ltb}
use Rattle.format.specs.Conditions.{when◌then◌else◌, same}
use Rattle.format.specs.Outcome.{Outcome, fault, done, ◌>>=◌, ◌>>◌, guard}
use Rattle.format.specs.Refusals.{not_there, rows_dont_fit}
use Rattle.format.specs.Rows.{Row, row_at, rows_in}
use Rattle.format.specs.Bytes.{bytes, within}
use Rattle.format.specs.Addresses.{is_key, along}
use Rattle.format.specs.Lookup.{has_names, find, lookup}
use Rattle.format.proofs.Parts.{inside}
use Rattle.ways.proofs.Along as Along
use Rattle.lookup.specs.Keys.{member_of}

-- ---- a key and its member

-- a member whose key was followed
pub record Member (m ws : List ℕ) (stop key member : ℕ) : Type 0 where
  pub up : key < member
  pub before : member < stop
  pub inside : within (length m) (row_at ws key).payload (row_at ws key).extent ≡ true

module _ (m ws : List ℕ) (stop key : ℕ) where
  -- the tests after the key's own
  tested : Outcome ℕ → Bool → Outcome ℕ
  tested o a = o >>= (λ x. guard a rows_dont_fit 0 >> (guard (ltb x stop) rows_dont_fit 0 >> done x))

  pub no_key : (n : ℕ) → along ws is_key stop key ≡ fault n 0 → fault n 0 ≡ member_of m ws stop key
  unfolding member_of ◌>>=◌
  no_key n e = rw e

  module _ (member : ℕ) (followed : along ws is_key stop key ≡ done member) (k : Row) (read : k ≡ row_at ws key) where
    pub outside : within (length m) k.payload k.extent ≡ false → fault rows_dont_fit 0 ≡ member_of m ws stop key
    unfolding member_of guard ◌>>◌ ◌>>=◌
    outside e = rw (← read, followed, e)

    module _ (there : within (length m) k.payload k.extent ≡ true) where
      pub no_member : stop ≤ member → fault rows_dont_fit 0 ≡ member_of m ws stop key
      unfolding member_of guard ◌>>◌ ◌>>=◌
      no_member h = rw (← read, followed, there, le-ltb member stop h)

      pub the_member : member < stop → done member ≡ member_of m ws stop key
      unfolding member_of guard ◌>>◌ ◌>>=◌
      the_member h = rw (← read, followed, there, lt-ltb member stop h)

  pub member_is : (member : ℕ) → member_of m ws stop key ≡ done member → Member m ws stop key member
  unfolding member_of tested guard ◌>>◌ ◌>>=◌
  member_is member e = go (along ws is_key stop key) refl (within (length m) (row_at ws key).payload (row_at ws key).extent) refl e
    where
      last : (x : ℕ) → along ws is_key stop key ≡ done x → (b : Bool) → ltb x stop ≡ b → within (length m) (row_at ws key).payload (row_at ws key).extent ≡ true
          → (guard b rows_dont_fit 0 >> done x) ≡ done member → Member m ws stop key member
      last x f true t w e =
          let q : x ≡ member = cc in
          let h = Along.followed ws is_key stop key x f in
          subst (λ y. Member m ws stop key y) q (record { up = h.up; before = ltb-true x stop t; inside = w })
      last x f false t w e = let z : ◌≡◌ {A = ℕ} 0 1 = cc in absurd (omega arith)

      go : (o : Outcome ℕ) → along ws is_key stop key ≡ o → (a : Bool) → within (length m) (row_at ws key).payload (row_at ws key).extent ≡ a
          → tested o a ≡ done member → Member m ws stop key member
      go (fault n p) f a w e = let z : ◌≡◌ {A = ℕ} 0 1 = cc in absurd (omega arith)
      go (done x) f true w e = last x f (ltb x stop) refl w e
      go (done x) f false w e = let z : ◌≡◌ {A = ℕ} 0 1 = cc in absurd (omega arith)

  pub member_refused : (n : ℕ) → member_of m ws stop key ≡ fault n 0 → n ≡ rows_dont_fit
  unfolding member_of tested guard ◌>>◌ ◌>>=◌
  member_refused n e = go (along ws is_key stop key) refl (within (length m) (row_at ws key).payload (row_at ws key).extent) e
    where
      last : (x : ℕ) (b : Bool) → (guard b rows_dont_fit 0 >> done x) ≡ fault n 0 → n ≡ rows_dont_fit
      last x true e = let z : ◌≡◌ {A = ℕ} 0 1 = cc in absurd (omega arith)
      last x false e = cc

      go : (o : Outcome ℕ) → along ws is_key stop key ≡ o → (a : Bool) → tested o a ≡ fault n 0 → n ≡ rows_dont_fit
      go (fault k p) f a e = let q : fault k p ≡ fault n 0 = e in Along.refused ws is_key stop key n (f ∙ q)
      go (done x) f true e = last x (ltb x stop) e
      go (done x) f false e = cc

-- ---- the members

module _ (m ws name : List ℕ) where
  -- a key whose bytes are the name's
  pub named : ℕ → Bool
  named key = same (bytes m (row_at ws key).payload (row_at ws key).extent) name

  -- by the row that was loaded
  pub names : (key : ℕ) (k : Row) → k ≡ row_at ws key → named key ≡ same (bytes m k.payload k.extent) name
  unfolding named
  names key k e = rw e

  -- the bytes of a key that was followed lie inside the message
  pub key_inside : (stop key member : ℕ) (k : Row) → k ≡ row_at ws key → done member ≡ member_of m ws stop key → k.payload + k.extent ≤ length m
  key_inside stop key member k e d = inside m _ _ (rw (← e) at (member_is m ws stop key member (sym d)).inside)

  -- after a key: its member, or those that come after the member
  after : ℕ → ℕ → Bool → ℕ → Outcome ℕ
  after fuel stop b member = when b then done member else (along ws (λ r. true) stop member >>= find m ws name fuel stop)

  regroup : (stop : ℕ) (o : Outcome ℕ) (a : Bool) (f : ℕ → Outcome ℕ)
      → (o >>= (λ x. guard a rows_dont_fit 0 >> (guard (ltb x stop) rows_dont_fit 0 >> f x)))
      ≡ ((o >>= (λ x. guard a rows_dont_fit 0 >> (guard (ltb x stop) rows_dont_fit 0 >> done x))) >>= f)
  unfolding guard ◌>>◌ ◌>>=◌
  regroup stop (fault n p) a f = refl
  regroup stop (done x) false f = refl
  regroup stop (done x) true f = go (ltb x stop)
    where
      go : (b : Bool) → (guard b rows_dont_fit 0 >> f x) ≡ ((guard b rows_dont_fit 0 >> done x) >>= f)
      go true = refl
      go false = refl

  step : (fuel stop key : ℕ) → key < stop → find m ws name (suc fuel) stop key ≡ (member_of m ws stop key >>= after fuel stop (named key))
  unfolding find member_of when◌then◌else◌ after named
  step fuel stop key h = rw (lt-leb stop key h) (regroup stop (along ws is_key stop key) (within (length m) (row_at ws key).payload (row_at ws key).extent) (after fuel stop (named key)))

  -- from a key on, with fuel that is enough
  pub record Walk (stop from key : ℕ) : Type 0 where
    pub fuel : ℕ
    pub enough : stop - key ≤ fuel
    pub rest : find m ws name fuel stop key ≡ find m ws name (length ws) stop from

  module _ (stop from : ℕ) where
    pub started : stop ≤ rows_in ws → Walk stop from from
    unfolding rows_in
    started h = record { fuel = length ws; enough = omega arith; rest = refl }

    -- no member is left
    pub ended : (key : ℕ) → Walk stop from key → stop ≤ key → fault not_there 0 ≡ find m ws name (length ws) stop from
    unfolding find when◌then◌else◌
    ended key w h = sym (go w.fuel) ∙ w.rest
      where
        go : (fuel : ℕ) → find m ws name fuel stop key ≡ fault not_there 0
        go zero = refl
        go (suc fuel) = rw (le-leb stop key h)

    -- one step, whatever it gives
    turn : (key : ℕ) → Walk stop from key → key < stop
        → (fuel : ℕ) × (stop - key ≤ suc fuel) × ((member_of m ws stop key >>= after fuel stop (named key)) ≡ find m ws name (length ws) stop from)
    turn key w h = go w.fuel w.enough w.rest
      where
        go : (fuel : ℕ) → stop - key ≤ fuel → find m ws name fuel stop key ≡ find m ws name (length ws) stop from
            → (fuel : ℕ) × (stop - key ≤ suc fuel) × ((member_of m ws stop key >>= after fuel stop (named key)) ≡ find m ws name (length ws) stop from)
        go zero e r = absurd (omega arith)
        go (suc fuel) e r = (fuel, e, sym (step fuel stop key h) ∙ r)

    module _ (key : ℕ) (w : Walk stop from key) (h : key < stop) where
      -- the key can't be followed
      pub stuck : (n : ℕ) → fault n 0 ≡ member_of m ws stop key → fault n 0 ≡ find m ws name (length ws) stop from
      unfolding ◌>>=◌
      stuck n e = rw (← e) at (turn key w h).2

      module _ (member : ℕ) (e : done member ≡ member_of m ws stop key) where
        -- its bytes are the name's
        pub hit : named key ≡ true → done member ≡ find m ws name (length ws) stop from
        unfolding ◌>>=◌ after when◌then◌else◌
        hit s = rw (← e, s) at (turn key w h).2

        module _ (s : named key ≡ false) where
          -- its member can't be passed
          pub barred : (n : ℕ) → fault n 0 ≡ along ws (λ r. true) stop member → fault n 0 ≡ find m ws name (length ws) stop from
          unfolding ◌>>=◌ after when◌then◌else◌
          barred n f = rw (← e, s, ← f) at (turn key w h).2

          -- the next key stands after this one
          pub higher : (next : ℕ) → done next ≡ along ws (λ r. true) stop member → key < next
          higher next f =
              let a = Along.followed ws (λ r. true) stop member next (sym f) in
              let k = member_is m ws stop key member (sym e) in
              omega (arith, a.up, k.up)

          -- on to it
          pub onward : (next : ℕ) → done next ≡ along ws (λ r. true) stop member → Walk stop from next
          unfolding ◌>>=◌ after when◌then◌else◌
          onward next f =
              let t = turn key w h in
              record { fuel = t.0; enough = omega (arith, t.1, higher next f); rest = rw (← e, s, ← f) at t.2 }

-- ---- the container

module _ (m ws name : List ℕ) (row : ℕ) where
  pub no_container : (n : ℕ) → fault n 0 ≡ along ws has_names (rows_in ws) row → fault n 0 ≡ lookup m ws name row
  unfolding lookup ◌>>=◌
  no_container n e = rw (← e)

  pub container : (stop : ℕ) → done stop ≡ along ws has_names (rows_in ws) row → find m ws name (length ws) stop (row + 1) ≡ lookup m ws name row
  unfolding lookup ◌>>=◌
  container stop e = rw (← e)
