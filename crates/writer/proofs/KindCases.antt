-- The kinds of rows, as `is_single` and `is_list` tell them apart. Assumes nothing.
use Prim.Native.Nat.{ℕ}
use mathlib.Core.Path.{◌≡◌, refl, sym}
use mathlib.Core.Bool.{true, false}
use mathlib.Core.Logic.{◌⊎◌, inl, inr}
use borrow.Author.Tests.{ne_eqb}
use Rattle.format.specs.Conditions.{among}
use Rattle.format.specs.Tokens as Tokens
use Rattle.format.specs.Tokens.{kind_number}
use Rattle.format.specs.Answers.{kind_of}
use Rattle.format.specs.declared.answers.Kind.{Kind}
use Rattle.format.specs.declared.answers.Kind.TheVariants.{Scalar, Text, HighPrecision, Key, Array, Object, Packed, Table, Leaf, SchemaRecord, FixedArray, Dimension, Extension}
use Rattle.writer.specs.Pieces.{is_single, is_list}

-- a number that no kind has
module _ (n : ℕ) (none : (k : Tokens.Kind) → kind_number k ≡ n → ⊥) where
  apart : (k : Tokens.Kind) → n ≡ kind_number k → ⊥
  apart k e = none k (sym e)

  pub no_single : false ≡ is_single n
  unfolding is_single among
  no_single = rw (ne_eqb _ _ (apart Tokens.scalar), ne_eqb _ _ (apart Tokens.text), ne_eqb _ _ (apart Tokens.high_precision), ne_eqb _ _ (apart Tokens.key), ne_eqb _ _ (apart Tokens.leaf), ne_eqb _ _ (apart Tokens.dimension))

  pub no_list : false ≡ is_list n
  unfolding is_list among
  no_list = rw (ne_eqb _ _ (apart Tokens.array), ne_eqb _ _ (apart Tokens.object))

-- a kind's number
module _ (n : ℕ) where
  pub single_kind : (k : Kind) → kind_number (kind_of k) ≡ n → (k ≡ Scalar) ⊎ ((k ≡ Text) ⊎ ((k ≡ HighPrecision) ⊎ ((k ≡ Key) ⊎ ((k ≡ Leaf) ⊎ (k ≡ Dimension))))) → true ≡ is_single n
  unfolding is_single among
  single_kind k e (inl p) = rw (← e, p) refl
  single_kind k e (inr (inl p)) = rw (← e, p) refl
  single_kind k e (inr (inr (inl p))) = rw (← e, p) refl
  single_kind k e (inr (inr (inr (inl p)))) = rw (← e, p) refl
  single_kind k e (inr (inr (inr (inr (inl p))))) = rw (← e, p) refl
  single_kind k e (inr (inr (inr (inr (inr p))))) = rw (← e, p) refl

  pub list_kind : (k : Kind) → kind_number (kind_of k) ≡ n → (k ≡ Array) ⊎ (k ≡ Object) → true ≡ is_list n
  unfolding is_list among
  list_kind k e (inl p) = rw (← e, p) refl
  list_kind k e (inr p) = rw (← e, p) refl

  pub other_single : (k : Kind) → kind_number (kind_of k) ≡ n → (k ≡ Scalar → ⊥) → (k ≡ Text → ⊥) → (k ≡ HighPrecision → ⊥) → (k ≡ Key → ⊥) → (k ≡ Leaf → ⊥) → (k ≡ Dimension → ⊥) → false ≡ is_single n
  unfolding is_single among
  other_single Scalar e n0 n1 n2 n3 n4 n5 = absurd (n0 refl)
  other_single Text e n0 n1 n2 n3 n4 n5 = absurd (n1 refl)
  other_single HighPrecision e n0 n1 n2 n3 n4 n5 = absurd (n2 refl)
  other_single Key e n0 n1 n2 n3 n4 n5 = absurd (n3 refl)
  other_single Array e n0 n1 n2 n3 n4 n5 = rw (← e) refl
  other_single Object e n0 n1 n2 n3 n4 n5 = rw (← e) refl
  other_single Packed e n0 n1 n2 n3 n4 n5 = rw (← e) refl
  other_single Table e n0 n1 n2 n3 n4 n5 = rw (← e) refl
  other_single Leaf e n0 n1 n2 n3 n4 n5 = absurd (n4 refl)
  other_single SchemaRecord e n0 n1 n2 n3 n4 n5 = rw (← e) refl
  other_single FixedArray e n0 n1 n2 n3 n4 n5 = rw (← e) refl
  other_single Dimension e n0 n1 n2 n3 n4 n5 = absurd (n5 refl)
  other_single Extension e n0 n1 n2 n3 n4 n5 = rw (← e) refl

  pub other_list : (k : Kind) → kind_number (kind_of k) ≡ n → (k ≡ Array → ⊥) → (k ≡ Object → ⊥) → false ≡ is_list n
  unfolding is_list among
  other_list Scalar e n0 n1 = rw (← e) refl
  other_list Text e n0 n1 = rw (← e) refl
  other_list HighPrecision e n0 n1 = rw (← e) refl
  other_list Key e n0 n1 = rw (← e) refl
  other_list Array e n0 n1 = absurd (n0 refl)
  other_list Object e n0 n1 = absurd (n1 refl)
  other_list Packed e n0 n1 = rw (← e) refl
  other_list Table e n0 n1 = rw (← e) refl
  other_list Leaf e n0 n1 = rw (← e) refl
  other_list SchemaRecord e n0 n1 = rw (← e) refl
  other_list FixedArray e n0 n1 = rw (← e) refl
  other_list Dimension e n0 n1 = rw (← e) refl
  other_list Extension e n0 n1 = rw (← e) refl
