-- The walk over a container's dimensions: those that were gathered, and those that are left. Assumes nothing.
use Prim.Native.Nat.{ℕ, zero, suc, ◌+◌, ◌≤◌, ◌<◌}
use mathlib.Core.Path.{◌≡◌, refl, sym, ap, ◌∙◌}
use mathlib.Core.Bool.{Bool, true, false}
use mathlib.Core.List.{List, [], ◌∷◌, ◌++◌, append-nil, append_assoc}
use native.Mathlib.Omega.{arith}
use lib.ListN.{length, take, set, length-append}
use lib.Seq.{take-suc-set}
use lib.Dec.{leb}
use borrow.Author.Tests.{eq-eqb, ne_eqb, le-leb, lt-leb}
use Rattle.format.specs.Conditions.{when◌then◌else◌, between}
use Rattle.format.specs.Outcome.{Outcome, fault, done, guard, ◌>>=◌, ◌>>◌}
use Rattle.format.specs.Limits.{dimension_limit}
use Rattle.format.specs.Refusals.{rows_dont_fit}
use Rattle.format.specs.Tokens.{plain_count}
use Rattle.format.specs.Rows.{Row, row_at}
use Rattle.format.specs.Addresses.{child_of, along, is_dimension, dimensions_from, dimensions}
use Rattle.ways.specs.Dimensions.{some_few}
use Rattle.ways.proofs.Along.{followed, Walked, follows, stuck, walked}

-- these, and then those of an outcome
abbrev after : List ℕ → Outcome (List ℕ) → Outcome (List ℕ)
after ds o = o >>= λ es. done (ds ++ es)

-- one to eight of them
abbrev few : Outcome (List ℕ) → Outcome (List ℕ)
few o = o >>= λ ds. guard (between 1 dimension_limit (length ds)) rows_dont_fit 0 >> done ds

after_none : (o : Outcome (List ℕ)) → o ≡ after [] o
unfolding ◌>>=◌
after_none (fault n p) = refl
after_none (done ds) = refl

after_one : (ds : List ℕ) (d : ℕ) (o : Outcome (List ℕ)) → after ds (o >>= λ es. done (d ∷ es)) ≡ after (ds ++ d ∷ []) o
unfolding ◌>>=◌
after_one ds d (fault n p) = refl
after_one ds d (done es) = ap done (sym (append_assoc ds (d ∷ []) es))

-- gathered, or refused with 12
data Told : Outcome (List ℕ) → Type 0 where
  all_told : {ds : List ℕ} → Told (done ds)
  not_told : Told (fault rows_dont_fit 0)

-- more than eight are refused, whatever follows them
too_many : (ds : List ℕ) (o : Outcome (List ℕ)) → Told o → dimension_limit < length ds → few (after ds o) ≡ fault rows_dont_fit 0
unfolding between guard ◌>>=◌ ◌>>◌
too_many ds o not_told h = refl
too_many ds o (all_told {ds = es}) h =
    rw (le-leb 1 (length (ds ++ es)) (omega (arith, length-append ds es)), lt-leb (length (ds ++ es)) dimension_limit (omega (arith, length-append ds es))) refl

-- the dimensions from `from` on, up to the container's link, are those gathered and then those from `row` on
pub record Sofar (ws : List ℕ) (container stop from row : ℕ) (ds : List ℕ) : Type 0 where
  pub ends : stop ≡ (row_at ws container).link
  pub steps : ℕ
  pub enough : stop ≤ row + steps
  pub rest : dimensions_from ws (length ws) container from ≡ after ds (dimensions_from ws steps container row)

module _ (ws : List ℕ) (container stop : ℕ) (ends : stop ≡ (row_at ws container).link) where
  -- a dimension and those after it, the end, and a row that can't be followed
  one_more : (fuel row next : ℕ) → row < stop → along ws (child_of container is_dimension) stop row ≡ done next
      → dimensions_from ws (suc fuel) container row ≡ (dimensions_from ws fuel container next >>= λ ds. done ((row_at ws row).count ∷ ds))
  unfolding dimensions_from when◌then◌else◌ ◌>>=◌
  one_more fuel row next h e = rw (← ends, lt-leb stop row h, e) refl

  no_more : (fuel row : ℕ) → stop ≤ row → dimensions_from ws fuel container row ≡ done []
  unfolding dimensions_from when◌then◌else◌
  no_more zero row h = refl
  no_more (suc fuel) row h = rw (← ends, le-leb stop row h) refl

  no_way : (fuel row n : ℕ) → row < stop → along ws (child_of container is_dimension) stop row ≡ fault n 0 → dimensions_from ws (suc fuel) container row ≡ fault n 0
  unfolding dimensions_from when◌then◌else◌ ◌>>=◌
  no_way fuel row n h e = rw (← ends, lt-leb stop row h, e) refl

module _ (ws : List ℕ) (container stop : ℕ) where
  pub sofar_start : (from : ℕ) → stop ≡ (row_at ws container).link → stop ≤ length ws → Sofar ws container stop from from []
  sofar_start from e h = record { ends = e; steps = length ws; enough = omega arith; rest = after_none _ }

  pub sofar_on : (from row next : ℕ) (ds : List ℕ) → Sofar ws container stop from row ds → row < stop → along ws (child_of container is_dimension) stop row ≡ done next
      → Sofar ws container stop from next (ds ++ (row_at ws row).count ∷ [])
  sofar_on from row next ds s h e = go s.steps s.enough s.rest
    where
      go : (steps : ℕ) → stop ≤ row + steps → dimensions_from ws (length ws) container from ≡ after ds (dimensions_from ws steps container row)
          → Sofar ws container stop from next (ds ++ (row_at ws row).count ∷ [])
      go zero k r = absurd (omega arith)
      go (suc steps) k r =
          let up = (followed ws (child_of container is_dimension) stop row next e).up in
          record { ends = s.ends; steps = steps; enough = omega arith; rest = r ∙ ap (after ds) (one_more ws container stop s.ends steps row next h e) ∙ after_one ds _ _ }

  -- one more, stored after those gathered
  pub sofar_store : (from row next many x : ℕ) (into : List ℕ) → Sofar ws container stop from row (take many into) → row < stop
      → along ws (child_of container is_dimension) stop row ≡ done next → many < length into → x ≡ (row_at ws row).count → Sofar ws container stop from next (take (many + 1) (set into many x))
  sofar_store from row next many x into s h e few q =
      let k : many + 1 ≡ suc many = omega arith in
      rw (k, take-suc-set into many x few, q) (sofar_on from row next (take many into) s h e)

  told : (fuel row : ℕ) → Told (dimensions_from ws fuel container row)
  unfolding dimensions_from when◌then◌else◌ ◌>>=◌
  told zero row = all_told
  told (suc fuel) row = go (λ k. told fuel k) (leb (row_at ws container).link row)
    where
      join : (o : Outcome (List ℕ)) → Told o → Told (o >>= λ ds. done ((row_at ws row).count ∷ ds))
      join o all_told = all_told
      join o not_told = not_told

      on : ((k : ℕ) → Told (dimensions_from ws fuel container k)) → (o : Outcome ℕ) → Walked ws (child_of container is_dimension) (row_at ws container).link row o
          → Told (o >>= λ next. dimensions_from ws fuel container next >>= λ ds. done ((row_at ws row).count ∷ ds))
      on rest o (follows {next = next} f) = join (dimensions_from ws fuel container next) (rest next)
      on rest o stuck = not_told

      go : ((k : ℕ) → Told (dimensions_from ws fuel container k)) → (b : Bool) → Told (when b then done [] else (along ws (child_of container is_dimension) (row_at ws container).link row >>= λ next.
          dimensions_from ws fuel container next >>= λ ds. done ((row_at ws row).count ∷ ds)))
      go rest true = all_told
      go rest false = on rest (along ws (child_of container is_dimension) (row_at ws container).link row) (walked ws (child_of container is_dimension) (row_at ws container).link row)

  -- a row that can't be followed
  pub sofar_refused : (from row n : ℕ) (ds : List ℕ) → Sofar ws container stop from row ds → row < stop → along ws (child_of container is_dimension) stop row ≡ fault n 0
      → some_few ws container from ≡ fault n 0
  unfolding some_few ◌>>=◌
  sofar_refused from row n ds s h e = go s.steps s.enough s.rest
    where
      go : (steps : ℕ) → stop ≤ row + steps → dimensions_from ws (length ws) container from ≡ after ds (dimensions_from ws steps container row)
          → some_few ws container from ≡ fault n 0
      go zero k r = absurd (omega arith)
      go (suc steps) k r = ap few (r ∙ ap (after ds) (no_way ws container stop s.ends steps row n h e))

  -- a ninth dimension
  pub sofar_ninth : (from row next : ℕ) (ds : List ℕ) → Sofar ws container stop from row ds → row < stop → along ws (child_of container is_dimension) stop row ≡ done next
      → dimension_limit ≤ length ds → some_few ws container from ≡ fault rows_dont_fit 0
  unfolding some_few
  sofar_ninth from row next ds s h e k =
      let t = sofar_on from row next ds s h e in
      ap few t.rest ∙ too_many (ds ++ (row_at ws row).count ∷ []) _ (told t.steps next) (omega (arith, length-append ds ((row_at ws row).count ∷ [])))

  -- all of them
  pub sofar_end : (from row : ℕ) (ds : List ℕ) → Sofar ws container stop from row ds → stop ≤ row → 1 ≤ length ds → length ds ≤ dimension_limit
      → some_few ws container from ≡ done ds
  unfolding some_few between guard ◌>>=◌ ◌>>◌
  sofar_end from row ds s h low high =
      ap few (s.rest ∙ ap (after ds) (no_more ws container stop s.ends s.steps row h) ∙ ap done (append-nil ds))
      ∙ rw (le-leb 1 (length ds) low, le-leb (length ds) dimension_limit high) refl

  -- none
  pub sofar_none : (from row : ℕ) → Sofar ws container stop from row [] → stop ≤ row → some_few ws container from ≡ fault rows_dont_fit 0
  unfolding some_few between guard ◌>>=◌ ◌>>◌
  sofar_none from row s h = ap few (s.rest ∙ ap (after []) (no_more ws container stop s.ends s.steps row h))

-- ---- what the order tells

-- a plain count is the one extent
pub plain_extent : (ws : List ℕ) (container from : ℕ) (r : Row) → r ≡ row_at ws container → r.order ≡ plain_count
    → (into : List ℕ) → length into ≡ dimension_limit → dimensions ws container from ≡ done (take 1 (set into 0 r.count))
unfolding dimensions when◌then◌else◌
plain_extent ws container from r e o into l =
    rw (← e, eq-eqb _ _ o) (ap done (sym (take-suc-set into 0 r.count (omega arith))))

-- else there are dimensions
pub shaped_extents : (ws : List ℕ) (container from : ℕ) (r : Row) → r ≡ row_at ws container → (r.order ≡ plain_count → ⊥)
    → dimensions ws container from ≡ some_few ws container from
unfolding dimensions some_few when◌then◌else◌
shaped_extents ws container from r e o = rw (← e, ne_eqb _ _ o) refl
