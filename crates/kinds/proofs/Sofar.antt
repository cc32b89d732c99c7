-- A loop over the members of a schema: what was read so far lies in the words with its offsets, and the whole is that and what
-- remains. Assumes nothing.
use Prim.Native.Nat.{ℕ, ◌+◌, ◌≤◌, min}
use mathlib.Core.Path.{◌≡◌, refl, sym, ◌∙◌}
use mathlib.Core.List.{List}
use native.Mathlib.Omega.{arith}
use Rattle.format.specs.Outcome.{Parsed, fault, ◌>>=◌}
use Rattle.format.specs.Limits.{record_limit}
use Rattle.format.specs.Tokens.{Forest, none, size, ◌⊕◌, members}
use Rattle.format.specs.Records.{total_width, placed}
use Rattle.format.specs.Rows.{Ancestry, rows}
use Rattle.format.specs.Sequences.{Reader, ◌⨾◌}
use Rattle.format.specs.Scalars.{key}
use Rattle.format.proofs.Forests.{size_append, members_append, width_append}
use Rattle.rows.specs.Overlay.{lay}
use Rattle.tokens.specs.Answers.{onto, Laid}
use Rattle.tokens.proofs.Sofar.{onto-none, onto-onto, seq_read}
use Rattle.kinds.specs.Answers.{over, kind_at, field_at, Read, Meets, Sofar, StartMeets, StartWithin}
use Rattle.std.specs.Prelude.{Result, Ok, Err}
use Rattle.format.specs.declared.refusals.Refused.{Refused}
use Rattle.kinds.specs.declared.Kinds.{Kinds}
use Rattle.kinds.specs.declared.starts.Start.{Start}
use Rattle.kinds.specs.declared.starts.Start.TheVariants.{Whole, Opens}
use Rattle.kinds.proofs.Placing.{lay-placed, keys_width, keys_placed}

-- nothing is read yet
pub sofar_start : (o remains : Parsed Forest) (first offset : ℕ) (ancestry : Ancestry) (before : List ℕ) → offset ≤ over → o ≡ remains → Sofar o first offset ancestry before remains first 0 offset before
unfolding size members total_width placed rows lay
sofar_start o remains first offset ancestry before h e =
    record { forest = none; is = e ∙ sym (onto-none remains); counted = refl; took = omega arith; wide = omega arith; lie = λ _. refl }

-- a key is read
pub sofar_key : (item rest : Reader) (at row offset next row' : ℕ) (ancestry : Ancestry) (before after : List ℕ) → offset ≤ over → Laid (item at row) row 0 ancestry before after next row'
    → Sofar ((item ⨾ rest) at row) row offset ancestry before (rest next row') row' 0 offset after
sofar_key item rest at row offset next row' ancestry before after h l =
    let w = keys_width l.forest l.counted in
    record {
      forest = l.forest;
      is = rw l.took (seq_read item rest at row next l.forest l.read);
      counted = l.counted;
      took = l.took;
      wide = omega arith;
      lie = λ _. rw (keys_placed offset l.forest l.counted) l.lie;
    }

module _ {whole : Parsed Forest} {first offset : ℕ} {ancestry : Ancestry} {before : List ℕ} {remains : Parsed Forest} {row count offset' : ℕ} {now : List ℕ}
    (s : Sofar whole first offset ancestry before remains row count offset' now) where
  -- what remains is said otherwise
  pub sofar_as : (o : Parsed Forest) → remains ≡ o → Sofar whole first offset ancestry before o row count offset' now
  sofar_as o e = record { forest = s.forest; is = rw e at s.is; counted = s.counted; took = s.took; wide = s.wide; lie = s.lie }

  -- one forest more
  grown : (g : Forest) (offset'' : ℕ) (after : List ℕ) → offset'' ≡ min (offset' + total_width g) over
      → (offset'' ≤ record_limit → after ≡ lay now row (rows row ancestry (placed offset' g)))
      → offset'' ≤ record_limit → after ≡ lay before first (rows first ancestry (placed offset (s.forest ⊕ g)))
  grown g offset'' after w l h =
      let f = s.forest in
      let e : offset' ≡ offset + total_width f = omega (arith, s.wide) in
      let k : offset' ≤ record_limit = omega (arith, s.wide) in
      l h ∙ rw (s.lie k, s.took, e) (lay-placed before first offset ancestry f g)

  -- one more is read
  pub sofar_step : (item rest : Reader) (at next row' offset'' : ℕ) (after : List ℕ) → remains ≡ (item ⨾ rest) at row
      → Read (item at row) row offset' ancestry now after next row' offset''
      → Sofar whole first offset ancestry before (rest next row') row' (count + 1) offset'' after
  sofar_step item rest at next row' offset'' after e l =
      let f = s.forest in
      let g = l.forest in
      let q : remains ≡ onto g (rest next (row + size g)) = e ∙ seq_read item rest at row next g l.read in
      record {
        forest = f ⊕ g;
        is = s.is ∙ rw (q, ← l.took) (onto-onto f g (rest next row'));
        counted = members_append f g ∙ omega (arith, s.counted, l.counted);
        took = omega (arith, s.took, l.took, size_append f g);
        wide = omega (arith, s.wide, l.wide, width_append f g);
        lie = grown g offset'' after l.wide l.lie;
      }

  -- one more is refused
  pub sofar_fault : (n p : ℕ) → remains ≡ fault n p → whole ≡ fault n p
  unfolding onto ◌>>=◌
  sofar_fault n p e = s.is ∙ rw e

-- what remains is one kind, after keys alone
pub sofar_meets : (k : Result Kinds Refused) (after : List ℕ) {whole remains : Parsed Forest} {first offset row : ℕ} {ancestry : Ancestry} {before now : List ℕ}
    → Sofar whole first offset ancestry before remains row 0 offset now → Meets k remains row offset ancestry now after → Meets k whole first offset ancestry before after
unfolding onto ◌>>=◌
sofar_meets (Err r) after s e = sofar_fault s _ _ e
sofar_meets (Ok k) after s l =
    let f = s.forest in
    let g = l.forest in
    record {
      forest = f ⊕ g;
      read = s.is ∙ rw l.read;
      counted = members_append f g ∙ omega (arith, s.counted, l.counted);
      took = omega (arith, s.took, l.took, size_append f g);
      wide = omega (arith, s.wide, l.wide, width_append f g);
      lie = grown s g k.offset after l.wide l.lie;
    }

-- keys, and more keys
sofar_keys : {whole middle remains : Parsed Forest} {first offset row row' : ℕ} {ancestry : Ancestry} {before now after : List ℕ}
    → Sofar whole first offset ancestry before middle row 0 offset now → Sofar middle row offset ancestry now remains row' 0 offset after
    → Sofar whole first offset ancestry before remains row' 0 offset after
sofar_keys {remains = remains} {offset = offset} {after = after} s t =
    let f = s.forest in
    let g = t.forest in
    record {
      forest = f ⊕ g;
      is = s.is ∙ rw t.is (onto-onto f g remains);
      counted = members_append f g ∙ omega (arith, s.counted, t.counted);
      took = omega (arith, s.took, t.took, size_append f g);
      wide = omega (arith, s.wide, t.wide, width_append f g);
      lie = grown s g offset after t.wide t.lie;
    }

-- where a kind begins after its key
pub start_key : (r : Result Start Refused) (m : List ℕ) (rows_lent levels at row offset next row' : ℕ) (ancestry : Ancestry) (before mid after : List ℕ) → offset ≤ over
    → Laid (key m rows_lent at row) row 0 ancestry before mid next row'
    → StartMeets r m rows_lent levels (kind_at m rows_lent levels next row') row' offset ancestry mid after
    → StartMeets r m rows_lent levels (field_at m rows_lent levels at row) row offset ancestry before after
start_key (Err r) m rows_lent levels at row offset next row' ancestry before mid after h l s =
    sofar_fault (sofar_key (key m rows_lent) (kind_at m rows_lent levels) at row offset next row' ancestry before mid h l) _ _ s
start_key (Ok (Whole k)) m rows_lent levels at row offset next row' ancestry before mid after h l s =
    sofar_meets (Ok k) after (sofar_key (key m rows_lent) (kind_at m rows_lent levels) at row offset next row' ancestry before mid h l) s
start_key (Ok (Opens b a r)) m rows_lent levels at row offset next row' ancestry before mid after h l s =
    sofar_keys (sofar_key (key m rows_lent) (kind_at m rows_lent levels) at row offset next row' ancestry before mid h l) s

-- what ends or opens from a place on does so from every place before it on
pub start_from : (r : Result Start Refused) (low low' high rows_lent levels offset : ℕ) → low' ≤ low → StartWithin r low high rows_lent levels offset → StartWithin r low' high rows_lent levels offset
start_from (Err r) low low' high rows_lent levels offset h w = tt
start_from (Ok (Whole k)) low low' high rows_lent levels offset h w = omega arith
start_from (Ok (Opens b a r)) low low' high rows_lent levels offset h w = omega arith
