-- A key's bytes against the name's, a byte at a time. Assumes nothing.
use Prim.Native.Nat.{ℕ, ◌+◌, ◌≤◌, ◌<◌}
use mathlib.Core.Path.{◌≡◌, sym, ap, subst, ◌∙◌}
use mathlib.Core.Bool.{true, false}
use mathlib.Core.List.{List}
use lib.ListN.{length, get_or}
use lib.Seq.{ext_get_or, get_or-take, get_or-drop}
use Rattle.format.specs.Conditions.{same}
use Rattle.format.specs.Bytes.{bytes}
use Rattle.format.proofs.Parts.{length-bytes}
use Rattle.format.proofs.SameBytes.{same_itself, not_same}

-- the first i bytes are equal
abbrev pub EqualUpTo : List ℕ → List ℕ → ℕ → ℕ → Type 0
EqualUpTo m name first i = (j : ℕ) → j < i → get_or m (first + j) 0 ≡ get_or name j 0

module _ (m name : List ℕ) (first wide : ℕ) (inside : first + wide ≤ length m) where
  long : length (bytes m first wide) ≡ wide
  long = length-bytes m first wide inside

  key_byte : (j : ℕ) → j < wide → get_or (bytes m first wide) j 0 ≡ get_or m (first + j) 0
  unfolding bytes
  key_byte j h = rw (get_or-take, get_or-drop)

  pub equal : wide ≡ length name → EqualUpTo m name first wide → same (bytes m first wide) name ≡ true
  equal e all = rw (ext_get_or 0 (bytes m first wide) name (long ∙ e) each) (same_itself name)
    where
      each : (j : ℕ) → j < length (bytes m first wide) → get_or (bytes m first wide) j 0 ≡ get_or name j 0
      each j h = let l : j < wide = subst (λ k. j < k) long h in key_byte j l ∙ all j l

  pub other_length : (wide ≡ length name → ⊥) → same (bytes m first wide) name ≡ false
  other_length n = not_same (bytes m first wide) name (λ e. n (sym long ∙ ap length e))

  pub other_byte : (j : ℕ) → j < wide → (get_or m (first + j) 0 ≡ get_or name j 0 → ⊥) → same (bytes m first wide) name ≡ false
  other_byte j h n = not_same (bytes m first wide) name (λ e. n (sym (key_byte j h) ∙ ap (λ l. get_or l j 0) e))
