-- The loops of a walk over members: what is passed, and one turn of each. Assumes nothing.
use Prim.Native.Nat.{ℕ, suc, ◌+◌, ◌-◌, ◌≤◌, ◌<◌}
use mathlib.Core.Path.{◌≡◌, sym, ap, ◌∙◌}
use mathlib.Core.List.{List}
use native.Mathlib.Omega.{arith}
use lib.ListN.{length, get_or}
use Rattle.format.specs.Outcome.{done}
use Rattle.format.specs.Tokens.{Forest}
use Rattle.format.specs.Sequences.{Reader, ◌⨾◌, repeat, until}
use Rattle.seek.specs.Walks.{Comes, Walks}
use Rattle.std.specs.Prelude.{Result, Ok, Err}
use Rattle.seek.specs.declared.steps.Past.{Past}
use Rattle.seek.specs.declared.steps.Stop.{Stop}
use Rattle.seek.specs.declared.steps.Stop.TheVariants.{Unread}
use Rattle.seek.proofs.Back.{Both, seq_back, parts, until_there, until_stops, until_goes}
use Rattle.seek.proofs.Walking.{Ahead, ahead_start, ahead_end, ahead_step, ahead_stop}

-- ---- so many

module _ (m : List ℕ) (n : ℕ) (item : Reader) (start first number : ℕ) where
  -- of n members, `count` are passed
  pub record Some (at row left count : ℕ) : Type 0 where
    pub most : count ≤ n
    pub ahead : (f : Forest) (end : ℕ) → repeat n item start first ≡ done (f, end) → Ahead first number f end (repeat (n - count) item at row) row left

  pub some_start : Some start first number 0
  some_start = record { most = omega arith; ahead = λ f end e. ahead_start first number f end _ (ap (λ k. repeat k item start first) (omega arith) ∙ e) }

  turn : (count at row : ℕ) → count < n → repeat (n - count) item at row ≡ (item ⨾ repeat (n - (count + 1)) item) at row
  unfolding repeat
  turn count at row h = let e : n - count ≡ suc (n - (count + 1)) = omega arith in rw e

  module _ {at row left count : ℕ} (s : Some at row left count) where
    pub some_end : n ≤ count → Walks (Ok (record { at = at; row = row; left = left })) m first number (repeat n item start first)
    unfolding repeat
    some_end h f end e =
        let a = s.ahead f end e in
        let z : n - count ≡ 0 = let k = s.most in omega arith in
        let q = parts (rw z at a.gives) in
        ahead_end a m end at (sym q.0) q.1

    module _ (more : count < n) where
      both : (f : Forest) (end : ℕ) (e : repeat n item start first ≡ done (f, end)) → Both item (repeat (n - (count + 1)) item) at row (s.ahead f end e).rest end
      both f end e = seq_back item _ at row _ end (sym (turn count at row more) ∙ (s.ahead f end e).gives)

      pub some_stop : (r : Stop) → Walks (Err r) m row left (item at row) → Walks (Err r) m first number (repeat n item start first)
      some_stop r w f end e =
          let b = both f end e in
          ahead_stop (s.ahead f end e) m item _ at b r (w b.first b.next b.read) end

      pub some_step : (p : Past) → Walks (Ok p) m row left (item at row) → Some p.at p.row p.left (count + 1)
      some_step p w =
          record {
            most = omega arith;
            ahead = λ f end e. let b = both f end e in ahead_step (s.ahead f end e) m item _ at b p (w b.first b.next b.read);
          }

-- ---- up to a closing mark

module _ (m : List ℕ) (gap : ℕ → ℕ) (closing : ℕ) (item : Reader) (start first number : ℕ) where
  -- some members are passed, and so much fuel remains for the others
  pub record Left (f : Forest) (end at row left : ℕ) : Type 0 where
    pub fuel : ℕ
    pub ahead : Ahead first number f end (until m fuel gap closing item at row) row left

  abbrev pub Until : ℕ → ℕ → ℕ → Type 0
  Until at row left = (f : Forest) (end : ℕ) → until m (length m) gap closing item start first ≡ done (f, end) → Left f end at row left

  -- a walk over them, and over the closing mark
  abbrev pub Closes : Result Past Stop → Type 0
  Closes r = (f : Forest) (end : ℕ) → until m (length m) gap closing item start first ≡ done (f, end) → Comes r m first number f (end + 1)

  pub until_start : Until start first number
  until_start f end e = record { fuel = length m; ahead = ahead_start first number f end _ e }

  module _ {at row left : ℕ} (s : Until at row left) where
    pub until_early : length m ≤ gap at → Closes (Err Unread)
    until_early h f end e = let u = s f end e in until_there m gap closing item u.fuel at row _ u.ahead.gives h

    module _ (there : gap at < length m) where
      pub until_end : get_or m (gap at) 0 ≡ closing → Closes (Ok (record { at = gap at + 1; row = row; left = left }))
      until_end c f end e =
          let u = s f end e in
          let q = until_stops m gap closing item at row _ end there u.fuel u.ahead.gives c in
          ahead_end u.ahead m (end + 1) (gap at + 1) q.0 (ap (λ k. k + 1) (sym q.1))

      module _ (more : get_or m (gap at) 0 ≡ closing → ⊥) where
        goes : (f : Forest) (end : ℕ) (e : until m (length m) gap closing item start first ≡ done (f, end))
            → (fuel : ℕ) × Both item (until m fuel gap closing item) (gap at) row (s f end e).ahead.rest end
        goes f end e =
            let u = s f end e in
            let g = until_goes m gap closing item at row _ end there u.fuel u.ahead.gives more in
            (g.0, seq_back item _ (gap at) row _ end g.1)

        pub until_stop : (r : Stop) → Walks (Err r) m row left (item (gap at) row) → Closes (Err r)
        until_stop r w f end e =
            let b = (goes f end e).1 in
            ahead_stop (s f end e).ahead m item _ (gap at) b r (w b.first b.next b.read) (end + 1)

        pub until_step : (p : Past) → Walks (Ok p) m row left (item (gap at) row) → Until p.at p.row p.left
        until_step p w f end e =
            let g = goes f end e in
            let b = g.1 in
            record { fuel = g.0; ahead = ahead_step (s f end e).ahead m item _ (gap at) b p (w b.first b.next b.read) }
