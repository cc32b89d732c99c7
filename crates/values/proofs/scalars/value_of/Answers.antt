-- `value_of`: by the mark, in the definition's order. Assumes nothing.
use Prim.Native.Nat.{ℕ, ◌^◌, ◌≤◌, ◌<◌}
use mathlib.Core.Path.{◌≡◌, sym, ap, ◌∙◌}
use native.Mathlib.Omega.{arith}
use native.Mathlib.Nat.{le_of_eq}
use borrow.Author.Tests.{ne_eqb}
use mir.Syntax.{w64}
use mir.Facts.{to_z-of_z}
use Rattle.format.specs.Conditions.{when◌then◌else◌, among}
use Rattle.format.specs.Marks.{integers, is_integer, signed_integers, is_signed, is_boolean, width, leaf_width}
use Rattle.format.specs.Bytes.{little}
use Rattle.format.specs.Values as Values
use Rattle.format.specs.Half as Half
use Rattle.values.proofs.Marked.{signed_wide, number_is, number_under}
use Rattle.values.proofs.scalars.value_of.Goals as goal

pub signed-requires : goal.signed-requires
unfolding Values.value_of when◌then◌else◌ among integers is_integer signed_integers is_signed is_boolean
signed-requires c =
    let under : (w : ℕ) → leaf_width c.args.mark.0 ≤ w → c.little_endian-n.result < 256 ^ w = number_under c.args.mark.0 _ _ c.little_endian-n.ensures c.requires (λ i. (c.shared_slice_known-1.given i).fits) in
    let s = sym c.is_signed.ensures ∙ c.if-is_signed.true in
    (s, under _ (le_of_eq (signed_wide _ s)))

pub returns-then-is_signed-clause-is : goal.returns-then-is_signed-clause-is
unfolding Values.value_of when◌then◌else◌ among integers is_integer signed_integers is_signed is_boolean
returns-then-is_signed-clause-is c =
    let number : c.little_endian-n.result ≡ little c.args.bytes.now = number_is c.args.mark.0 _ _ c.little_endian-n.ensures c.requires in
    let s = sym c.is_signed.ensures ∙ c.if-is_signed.true in rw s (ap Values.signed (to_z-of_z {w = w64} (record { sfits = c.signed.type_inv }) ∙ c.signed.ensures ∙ ap (Values.twos_complement _) (number)))

pub returns-then-is_integer-clause-is : goal.returns-then-is_integer-clause-is
unfolding Values.value_of when◌then◌else◌ among integers is_integer signed_integers is_signed is_boolean
returns-then-is_integer-clause-is c =
    let number : c.little_endian-n.result ≡ little c.args.bytes.now = number_is c.args.mark.0 _ _ c.little_endian-n.ensures c.requires in
    let s = sym c.is_signed.ensures ∙ c.if-is_signed.false in
    let i = sym c.is_integer.ensures ∙ c.if-is_integer.true in rw (s, i) (ap Values.unsigned (number))

pub overflow_cast-n : goal.overflow_cast-n
unfolding Values.value_of when◌then◌else◌ among integers is_integer signed_integers is_signed is_boolean leaf_width width
overflow_cast-n c =
    let under : (w : ℕ) → leaf_width c.args.mark.0 ≤ w → c.little_endian-n.result < 256 ^ w = number_under c.args.mark.0 _ _ c.little_endian-n.ensures c.requires (λ i. (c.shared_slice_known-1.given i).fits) in
    record { fits = under 2 (rw c.in-104.is (omega arith)) }

pub overflow_cast-n-in-100 : goal.overflow_cast-n-in-100
unfolding Values.value_of when◌then◌else◌ among integers is_integer signed_integers is_signed is_boolean leaf_width width
overflow_cast-n-in-100 c =
    let under : (w : ℕ) → leaf_width c.args.mark.0 ≤ w → c.little_endian-n.result < 256 ^ w = number_under c.args.mark.0 _ _ c.little_endian-n.ensures c.requires (λ i. (c.shared_slice_known-1.given i).fits) in
    record { fits = under 4 (rw c.in-100.is (omega arith)) }

pub overflow_cast-code : goal.overflow_cast-code
unfolding Values.value_of when◌then◌else◌ among integers is_integer signed_integers is_signed is_boolean leaf_width width
overflow_cast-code c =
    let under : (w : ℕ) → leaf_width c.args.mark.0 ≤ w → c.little_endian-n.result < 256 ^ w = number_under c.args.mark.0 _ _ c.little_endian-n.ensures c.requires (λ i. (c.shared_slice_known-1.given i).fits) in
    record { fits = under 1 (rw c.in-67.is (omega arith)) }

pub overflow_cast-byte : goal.overflow_cast-byte
unfolding Values.value_of when◌then◌else◌ among integers is_integer signed_integers is_signed is_boolean leaf_width width
overflow_cast-byte c =
    let under : (w : ℕ) → leaf_width c.args.mark.0 ≤ w → c.little_endian-n.result < 256 ^ w = number_under c.args.mark.0 _ _ c.little_endian-n.ensures c.requires (λ i. (c.shared_slice_known-1.given i).fits) in
    record { fits = under 1 (rw c.in-66.is (omega arith)) }

pub returns-in-104-clause-is : goal.returns-in-104-clause-is
unfolding Values.value_of when◌then◌else◌ among integers is_integer signed_integers is_signed is_boolean
returns-in-104-clause-is c =
    let number : c.little_endian-n.result ≡ little c.args.bytes.now = number_is c.args.mark.0 _ _ c.little_endian-n.ensures c.requires in rw c.in-104.is (c.single.ensures.is ∙ ap Values.single (c.single_bits.ensures ∙ ap Half.single (number)))

pub returns-in-100-clause-is : goal.returns-in-100-clause-is
unfolding Values.value_of when◌then◌else◌ among integers is_integer signed_integers is_signed is_boolean
returns-in-100-clause-is c =
    let number : c.little_endian-n.result ≡ little c.args.bytes.now = number_is c.args.mark.0 _ _ c.little_endian-n.ensures c.requires in rw c.in-100.is (c.single-in-100.ensures.is ∙ ap Values.single (number))

pub returns-in-68-clause-is : goal.returns-in-68-clause-is
unfolding Values.value_of when◌then◌else◌ among integers is_integer signed_integers is_signed is_boolean
returns-in-68-clause-is c =
    let number : c.little_endian-n.result ≡ little c.args.bytes.now = number_is c.args.mark.0 _ _ c.little_endian-n.ensures c.requires in rw c.in-68.is (c.double.ensures.is ∙ ap Values.double (number))

pub returns-in-67-clause-is : goal.returns-in-67-clause-is
unfolding Values.value_of when◌then◌else◌ among integers is_integer signed_integers is_signed is_boolean
returns-in-67-clause-is c =
    let number : c.little_endian-n.result ≡ little c.args.bytes.now = number_is c.args.mark.0 _ _ c.little_endian-n.ensures c.requires in rw c.in-67.is (ap Values.char (number))

pub returns-in-66-clause-is : goal.returns-in-66-clause-is
unfolding Values.value_of when◌then◌else◌ among integers is_integer signed_integers is_signed is_boolean
returns-in-66-clause-is c =
    let number : c.little_endian-n.result ≡ little c.args.bytes.now = number_is c.args.mark.0 _ _ c.little_endian-n.ensures c.requires in rw c.in-66.is (ap Values.byte (number))

pub returns-in-84-clause-is : goal.returns-in-84-clause-is
unfolding Values.value_of when◌then◌else◌ among integers is_integer signed_integers is_signed is_boolean
returns-in-84-clause-is c =
    rw c.in-84.is (ap Values.boolean (rw c.in-84.is at c.is_true.ensures))

pub returns-in-70-clause-is : goal.returns-in-70-clause-is
unfolding Values.value_of when◌then◌else◌ among integers is_integer signed_integers is_signed is_boolean
returns-in-70-clause-is c =
    rw c.in-70.is (ap Values.boolean (rw c.in-70.is at c.is_true-in-70.ensures))

pub returns-in_default-clause-is : goal.returns-in_default-clause-is
unfolding Values.value_of when◌then◌else◌ among integers is_integer signed_integers is_signed is_boolean
returns-in_default-clause-is c =
    let s = sym c.is_signed.ensures ∙ c.if-is_signed.false in
    let i = sym c.is_integer.ensures ∙ c.if-is_integer.false in
    let n = c.in_default.in_default-own.rest in rw (s, i) (simp (ne_eqb _ _ n.1, ne_eqb _ _ n.0.1, ne_eqb _ _ n.0.0.1, ne_eqb _ _ n.0.0.0.1, ne_eqb _ _ n.0.0.0.0.1, ne_eqb _ _ n.0.0.0.0.0.1, ne_eqb _ _ n.0.0.0.0.0.0.1))
