-- Members that follow: one as several, several in a loop, and a plain container that opens in an array. Assumes nothing.
use Prim.Native.Nat.{ℕ, zero, suc, ◌+◌, ◌-◌, ◌≤◌, ◌<◌}
use mathlib.Core.Path.{◌≡◌, refl, sym, ◌∙◌}
use mathlib.Core.List.{List, [], ◌∷◌}
use native.Mathlib.Omega.{arith}
use lib.ListN.{length, get_or}
use Rattle.format.specs.Grammars.{Grammar}
use Rattle.format.specs.Outcome.{Parsed, done, fault}
use Rattle.format.specs.Marks.{Opening, bracket, brace, opens, closes, is_scalar, types, integers, 'N'}
use Rattle.format.specs.Conditions.{when◌then◌else◌, among}
use Rattle.format.specs.Tokens.{Forest, size, members}
use Rattle.format.specs.Rows.{Ancestry, outermost, rows}
use Rattle.format.specs.Bytes.{skip}
use Rattle.format.specs.Sequences.{Reader, until, spaced}
use Rattle.format.specs.Containers.{items}
use Rattle.format.specs.Read.{value_by, nested}
use Rattle.format.proofs.Noops.{skip_here}
use Rattle.laws.proofs.Skips.{skip_again}
use Rattle.rows.specs.Overlay.{lay}
use Rattle.tokens.specs.Answers.{onto, Laid}
use Rattle.tokens.proofs.Sofar.{Sofar, sofar_step, seq_read, onto-fault, laid_after}
use Rattle.containers.specs.Lists.{closed}
use Rattle.containers.proofs.Loops.{Some, Until, until_start, until_stop, until-fault}
use Rattle.runs.specs.Runs.{Begins, Passed}
use Rattle.items.specs.Items.{class, opens_bracket, opens_brace}
use Rattle.items.specs.Headers.{member_of, OpensPlain}
use Rattle.items.proofs.ItemCases.{value_on, value_begins}
use Rattle.items.proofs.ContainerCases.{nested_plain}

-- a closing mark is no `N`
pub closing_here : (m : List ℕ) (at : ℕ) (o : Opening) → at < length m → get_or m at 0 ≡ closes o → skip m at ≡ at
unfolding closes
closing_here m at bracket h e = skip_here m at h (λ n. absurd (omega (arith, e, n)))
closing_here m at brace h e = skip_here m at h (λ n. absurd (omega (arith, e, n)))

-- a byte other than 0 is in the message
there_is : (m : List ℕ) (at : ℕ) → 0 < get_or m at 0 → at < length m
there_is [] at h = absurd (omega arith)
there_is (x ∷ m) zero h = omega arith
there_is (x ∷ m) (suc at) h = let l = there_is m at h in omega arith

-- an opening mark is no `N` and no closing mark, so a member may begin there
pub opening_begins : (m : List ℕ) (at : ℕ) (outer inner : Opening) → get_or m at 0 ≡ opens inner → Begins m (closes outer) at
unfolding opens closes
opening_begins m at outer inner e =
    let l = there_is m at (rw e (some inner)) in
    record { there = l; here = skip_here m at l (λ n. other inner (sym e ∙ n)); more = λ c. apart outer inner (sym e ∙ c) }
  where
    some : (o : Opening) → 0 < opens o
    some bracket = omega arith
    some brace = omega arith

    other : (o : Opening) → opens o ≡ 'N' → ⊥
    other bracket e = absurd (omega (arith, e))
    other brace e = absurd (omega (arith, e))

    apart : (outer inner : Opening) → opens inner ≡ closes outer → ⊥
    apart bracket bracket e = absurd (omega (arith, e))
    apart bracket brace e = absurd (omega (arith, e))
    apart brace bracket e = absurd (omega (arith, e))
    apart brace brace e = absurd (omega (arith, e))

-- ---- one member

-- its fault is that of all members from it on
pub first-fault : (m : List ℕ) (closing : ℕ) (item : Reader) (start first n p : ℕ) → Begins m closing start → item start first ≡ fault n p
    → (fuel : ℕ) → length m ≤ start + fuel → until m fuel (skip m) closing item start first ≡ fault n p
first-fault m closing item start first n p b h fuel l =
    let e = b.here in
    until-fault m (skip m) closing item start first outermost [] (until_start m (skip m) closing item start first outermost [] fuel l) (omega (arith, e)) (rw e b.there) (rw e b.more) n p (rw e h)

-- ---- several members in a loop

-- tokens are read, and what remains is other than it was
pub sofar_onto : {whole remains rest : Parsed Forest} {first row count row' k : ℕ} {ancestry : Ancestry} {before now after : List ℕ} → Sofar whole first ancestry before remains row count now
    → (g : Forest) → members g ≡ k → row' ≡ row + size g → after ≡ lay now row (rows row ancestry g) → remains ≡ onto g rest
    → Sofar whole first ancestry before rest row' (count + k) after
sofar_onto {rest = rest} {row = row} {row' = row'} {k = k} {after = after} s g counted took lie e =
    sofar_step s (λ at row. done (g, 0)) (λ at row. rest) 0 0 row' k after (e ∙ sym (seq_read (λ at row. done (g, 0)) (λ at row. rest) 0 row 0 g refl))
    (record { forest = g; read = refl; counted = counted; took = took; lie = lie })

module _ (m : List ℕ) (closing : ℕ) (item : Reader) (start first : ℕ) (ancestry : Ancestry) (before : List ℕ) where
  pub some_passed : (n at row count next row' k : ℕ) (now after : List ℕ) → Some n (spaced m item) start first ancestry before at row count now
      → Passed m closing item at row ancestry now next row' k after → count + k ≤ n → Some n (spaced m item) start first ancestry before next row' (count + k) after
  some_passed n at row count next row' k now after s p h =
      let e : n - count ≡ k + (n - (count + k)) = omega arith in
      record { most = h; sofar = sofar_onto s.sofar p.forest p.counted p.took p.lie (rw e (p.some (n - (count + k)))) }

  pub until_passed : (fuel₀ at row count next row' k : ℕ) (now after : List ℕ) → Until m (skip m) closing item start first ancestry before fuel₀ at row count now
      → Passed m closing item at row ancestry now next row' k after → Until m (skip m) closing item start first ancestry before fuel₀ next row' (count + k) after
  until_passed fuel₀ at row count next row' k now after s p =
      let g = p.goes s.fuel s.enough in
      record { fuel = g.left; enough = g.enough; sofar = sofar_onto s.sofar p.forest p.counted p.took p.lie g.is }

  -- past the `N` that stand here
  skipped : (fuel at row : ℕ) → until m fuel (skip m) closing item at row ≡ until m fuel (skip m) closing item (skip m at) row
  unfolding until
  skipped zero at row = refl
  skipped (suc fuel) at row = rw (skip_again m at)

  pub until_skip : (fuel₀ at row count : ℕ) (now : List ℕ) → at ≤ skip m at → Until m (skip m) closing item start first ancestry before fuel₀ at row count now
      → Until m (skip m) closing item start first ancestry before fuel₀ (skip m at) row count now
  until_skip fuel₀ at row count now u s =
      record {
        fuel = s.fuel;
        enough = omega (arith, s.enough);
        sofar = record { forest = s.sofar.forest; is = rw (skipped s.fuel at row) at s.sofar.is; counted = s.sofar.counted; took = s.sofar.took; lie = s.sofar.lie };
      }

  -- several, and then the closing mark
  pub passed_stop : (fuel₀ at row k : ℕ) (now : List ℕ) → length m ≤ start + fuel₀ → Passed m closing item start first ancestry before at row k now
      → skip m at ≡ at → at < length m → get_or m at 0 ≡ closing → Laid (until m fuel₀ (skip m) closing item start first) first k ancestry before now at row
  passed_stop fuel₀ at row k now h p e there c =
      let s = until_passed fuel₀ start first 0 at row k before now (until_start m (skip m) closing item start first ancestry before fuel₀ h) p in
      let l = until_stop m (skip m) closing item start first ancestry before s (omega (arith, e)) (rw e there) (rw e c) in
      let z : 0 + k ≡ k = omega arith in
      rw (e, z) at l

  -- several, and then a fault, or a list after them
  module _ (at row k : ℕ) (now : List ℕ) (p : Passed m closing item start first ancestry before at row k now) where
    pub list-fault : (n q : ℕ) → ((fuel : ℕ) → length m ≤ at + fuel → until m fuel (skip m) closing item at row ≡ fault n q)
        → (fuel : ℕ) → length m ≤ start + fuel → until m fuel (skip m) closing item start first ≡ fault n q
    list-fault n q h fuel l =
        let g = p.goes fuel l in g.is ∙ onto-fault p.forest _ n q (h g.left g.enough)

    pub list_passed : (end row' more : ℕ) (after : List ℕ) → ((fuel : ℕ) → length m ≤ at + fuel → Laid (until m fuel (skip m) closing item at row) row more ancestry now after end row')
        → (fuel : ℕ) → length m ≤ start + fuel → Laid (until m fuel (skip m) closing item start first) first (k + more) ancestry before after end row'
    list_passed end row' more after h fuel l =
        let g = p.goes fuel l in rw g.is (laid_after p.forest p.counted p.took p.lie (h g.left g.enough))

-- ---- a plain container in an array

module _ (m : List ℕ) (lent : ℕ) (grammar : Grammar) (levels at row : ℕ) where
  begun : (inner : Opening) → at < length m → get_or m at 0 ≡ opens inner → value_by m lent grammar (nested m lent grammar levels) at row ≡ nested m lent grammar levels inner at row
  unfolding opens class is_scalar types integers among value_on when◌then◌else◌
  begun bracket h e = value_begins m lent grammar _ at row opens_bracket h (rw e)
  begun brace h e = value_begins m lent grammar _ at row opens_brace h (rw e)

  pub opened_plain : (outer inner : Opening) → OpensPlain m lent levels outer inner at row
      → member_of m lent grammar levels outer at row ≡ closed inner at (at + 1) 1 (until m (length m) (skip m) (closes inner) (member_of m lent grammar (levels - 1) inner) (at + 1) (row + 1))
  unfolding member_of items
  opened_plain outer inner o =
      let t = o.there in
      rw o.within (begun inner (omega arith) o.opening ∙ nested_plain m lent grammar at row inner levels o.deep o.left o.there o.not_typed o.not_counted)
