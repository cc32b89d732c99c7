-- Products that stop one over the limit, and a loop over dimensions: what was read so far lies in the words, and the product so far
-- times that of what remains is the product of the whole. Assumes nothing.
use Prim.Native.Nat.{ℕ, suc, ◌+◌, ◌*◌, ◌≤◌}
use mathlib.Core.Path.{◌≡◌, refl, sym, ap, ◌∙◌}
use mathlib.Core.List.{List}
use native.Mathlib.Omega.{arith}
use native.Mathlib.Nat.{mul_comm, mul_assoc, mul-one, one-mul, mul-zero, mul-le-mul, min-eq_left}
use Rattle.format.specs.Outcome.{Parsed, fault, done, ◌>>=◌}
use Rattle.format.specs.Limits.{limit}
use Rattle.format.specs.Tokens.{Token, Forest, none, node, alone, size, ◌⊕◌, members, counts}
use Rattle.format.specs.Indexes.{product}
use Rattle.format.specs.Rows.{Ancestry, row_of, rows}
use Rattle.format.specs.Sequences.{Reader, ◌⨾◌}
use Rattle.format.proofs.Products.{stopped_factor}
use Rattle.rows.specs.Row.{store}
use Rattle.rows.specs.Overlay.{lay}
use Rattle.tokens.specs.Answers as Tokens
use Rattle.tokens.specs.Answers.{onto}
use Rattle.tokens.proofs.Sofar.{seq_read, Sofar, sofar_start, sofar_as, sofar_step, sofar_fault, sofar_end}
use Rattle.std.specs.Prelude.{Result, Ok, Err}
use Rattle.format.specs.declared.refusals.Refused.{Refused}
use Rattle.dimensions.specs.declared.Dims.{Dims}
use Rattle.dimensions.specs.Answers.{capped, Laid, Within}

-- ---- products

-- a factor may be capped first
pub capped_first : (a b : ℕ) → capped (capped a * b) ≡ capped (a * b)
capped_first a b = stopped_factor (limit + 1) a b

pub capped_other : (a b : ℕ) → capped (a * capped b) ≡ capped (a * b)
capped_other a b = ap capped (mul_comm a (capped b)) ∙ capped_first b a ∙ ap capped (mul_comm b a)

-- two numbers that are each at most one over the limit have a product that fits 64 bits
pub fits : (a b : ℕ) → a ≤ limit + 1 → b ≤ limit + 1 → a * b ≤ (limit + 1) * (limit + 1)
fits a b g h = mul-le-mul g h

pub product_append : (f g : Forest) → product (counts (f ⊕ g)) ≡ product (counts f) * product (counts g)
unfolding product counts ◌⊕◌
product_append none g = sym (one-mul _)
product_append (node t below after) g = rw (product_append after g) (sym (mul_assoc t.count _ _))

-- the product of the dimensions that were read
unfoldable pub product_of : Parsed Forest → ℕ
product_of (fault n p) = 0
product_of (done r) = product (counts r.0)

product-onto : (f : Forest) (o : Parsed Forest) → product_of (onto f o) ≡ product (counts f) * product_of o
unfolding product_of onto ◌>>=◌
product-onto f (fault n p) = sym (mul-zero (product (counts f)))
product-onto f (done r) = product_append f r.0

-- one more factor
further : (many n p rest : ℕ) → n ≡ capped p → capped (many * (p * rest)) ≡ capped (capped (many * n) * rest)
further many n p rest e =
    let q : many * (p * rest) ≡ many * rest * p = ap (λ k. many * k) (mul_comm p rest) ∙ sym (mul_assoc many rest p) in
    let s : many * n * rest ≡ many * rest * n = mul_assoc many n rest ∙ ap (λ k. many * k) (mul_comm n rest) ∙ sym (mul_assoc many rest n) in
    ap capped q ∙ sym (capped_first (many * n) rest ∙ ap capped s ∙ rw e (capped_other (many * rest) p))

-- ---- one dimension

pub laid_one : (t : Token) (row next : ℕ) (ancestry : Ancestry) (before now : List ℕ) → t.count ≤ limit → now ≡ store before row (row_of t (row + 1) ancestry)
    → Laid (done (alone t, next)) row ancestry before now next (row + 1) t.count
unfolding size rows lay product counts
laid_one t row next ancestry before now h e =
    let q : suc row + 0 ≡ row + 1 = omega arith in
    record {
      forest = alone t;
      read = refl;
      took = omega arith;
      times = sym (ap capped (mul-one t.count) ∙ min-eq_left (omega arith));
      lie = rw q e;
    }

-- what ends from a place on ends from every place before it on
pub within_from : (r : Result Dims Refused) (low low' high rows_lent : ℕ) → low' ≤ low → Within r low high rows_lent → Within r low' high rows_lent
within_from (Err r) low low' high rows_lent h w = tt
within_from (Ok d) low low' high rows_lent h w = omega arith

-- ---- a loop over dimensions

pub record Going (whole : Parsed Forest) (first : ℕ) (ancestry : Ancestry) (before : List ℕ) (remains : Parsed Forest) (row many : ℕ) (now : List ℕ) : Type 0 where
  pub count : ℕ
  pub sofar : Sofar whole first ancestry before remains row count now
  pub times : capped (product_of whole) ≡ capped (many * product_of remains)

-- nothing is read yet
pub going_start : (o : Parsed Forest) (first : ℕ) (ancestry : Ancestry) (before : List ℕ) → Going o first ancestry before o first 1 before
going_start o first ancestry before = record { count = 0; sofar = sofar_start o first ancestry before; times = ap capped (sym (one-mul (product_of o))) }

module _ {whole : Parsed Forest} {first : ℕ} {ancestry : Ancestry} {before : List ℕ} {remains : Parsed Forest} {row many : ℕ} {now : List ℕ}
    (g : Going whole first ancestry before remains row many now) where
  -- what remains is said otherwise
  pub going_as : (o : Parsed Forest) → remains ≡ o → Going whole first ancestry before o row many now
  going_as o e = record { count = g.count; sofar = sofar_as g.sofar o e; times = rw e at g.times }

  -- one more is read
  pub going_step : (item rest : Reader) (at next row' n : ℕ) (after : List ℕ) → remains ≡ (item ⨾ rest) at row → Laid (item at row) row ancestry now after next row' n
      → (many' : ℕ) → many' ≡ capped (many * n) → Going whole first ancestry before (rest next row') row' many' after
  going_step item rest at next row' n after e l many' c =
      let f = l.forest in
      let t : Tokens.Laid (item at row) row (members f) ancestry now after next row' =
      record { forest = f; read = l.read; counted = refl; took = l.took; lie = l.lie } in
      let q : product_of remains ≡ product (counts f) * product_of (rest next row') =
      ap product_of (e ∙ seq_read item rest at row next f l.read) ∙ rw (← l.took) (product-onto f (rest next row')) in
      record {
        count = g.count + members f;
        sofar = sofar_step g.sofar item rest at next row' (members f) after e t;
        times = g.times ∙ rw (q, c) (further many n (product (counts f)) (product_of (rest next row')) l.times);
      }

  -- one more is refused
  pub going_fault : (n p : ℕ) → remains ≡ fault n p → whole ≡ fault n p
  going_fault n p e = sofar_fault g.sofar n p e

  -- there is no more
  pub going_end : (end : ℕ) → remains ≡ done (none, end) → many ≤ limit + 1 → Laid whole first ancestry before now end row many
  unfolding product_of product counts
  going_end end e h =
      let l = sofar_end g.sofar end e in
      let q : capped (product (counts l.forest)) ≡ capped (many * 1) =
      ap (λ o. capped (product_of o)) (sym l.read) ∙ g.times ∙ ap (λ o. capped (many * product_of o)) e in
      record {
        forest = l.forest;
        read = l.read;
        took = l.took;
        times = sym (q ∙ ap capped (mul-one many) ∙ min-eq_left h);
        lie = l.lie;
      }

-- the first is read
pub going_first : (item rest : Reader) (at row next row' n : ℕ) (ancestry : Ancestry) (before after : List ℕ) → Laid (item at row) row ancestry before after next row' n → n ≤ limit + 1
    → Going ((item ⨾ rest) at row) row ancestry before (rest next row') row' n after
going_first item rest at row next row' n ancestry before after l h =
    going_step (going_start _ row ancestry before) item rest at next row' n after refl l n (sym (ap capped (one-mul n) ∙ min-eq_left h))
