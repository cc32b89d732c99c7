-- `scalar_at`: mark and length, the message's end, the content, then the value. Assumes nothing.
use Prim.Native.Nat.{◌+◌, ◌-◌, ◌≤◌}
use mathlib.Core.Path.{◌≡◌, sym, ap, ap₂, ◌∙◌}
use mathlib.Core.Bool.{true, ◌&&◌}
use native.Mathlib.Omega.{arith}
use lib.ListN.{length, take, drop}
use lib.Dec.{eqb}
use Rattle.format.specs.Marks.{is_scalar}
use Rattle.format.specs.Outcome.{done}
use Rattle.format.specs.Content.{is_content}
use Rattle.format.specs.Values.{value_of}
use Rattle.format.specs.Bytes.{bytes, within}
use Rattle.format.specs.Answers.{kind_of}
use Rattle.format.proofs.Parts.{part_is, inside, length-bytes}
use Rattle.values.specs.Due.{due}
use Rattle.values.proofs.Marked.{letter_is, marked}
use Rattle.values.proofs.ScalarCases.{no_mark, outside, no_content, read}
use Rattle.values.proofs.scalars.scalar_at.Goals as goal

pub returns-then-not-mark_fits-clause-is : goal.returns-then-not-mark_fits-clause-is
returns-then-not-mark_fits-clause-is c =
    no_mark _ _ _ _ (sym c.mark_fits.ensures ∙ c.if-not-mark_fits.true)

pub returns-then-not-within-clause-is : goal.returns-then-not-within-clause-is
returns-then-not-within-clause-is c =
    outside _ _ _ _ (sym c.mark_fits.ensures ∙ c.if-not-mark_fits.false) (sym c.within.ensures ∙ c.if-not-within.true)

pub overflow_add-bytes : goal.overflow_add-bytes
overflow_add-bytes c =
    let there : within (length c.args.message.now) c.args.first c.args.wide ≡ true = sym c.within.ensures ∙ c.if-not-within.false in
    let reach : c.args.first + c.args.wide ≤ length c.args.message.now = inside c.args.message.now _ _ there in
    omega (arith, reach)

pub slice_bounds-bytes-end : goal.slice_bounds-bytes-end
slice_bounds-bytes-end c =
    let there : within (length c.args.message.now) c.args.first c.args.wide ≡ true = sym c.within.ensures ∙ c.if-not-within.false in
    let reach : c.args.first + c.args.wide ≤ length c.args.message.now = inside c.args.message.now _ _ there in
    reach

pub returns-then-not-is_content-clause-is : goal.returns-then-not-is_content-clause-is
returns-then-not-is_content-clause-is c =
    let fitting : (is_scalar c.args.mark && eqb c.args.wide (due (kind_of c.args.kind) c.args.mark)) ≡ true = sym c.mark_fits.ensures ∙ c.if-not-mark_fits.false in
    let there : within (length c.args.message.now) c.args.first c.args.wide ≡ true = sym c.within.ensures ∙ c.if-not-within.false in
    let letter : c.of-letter.result.0 ≡ c.args.mark = c.of-letter.ensures ∙ letter_is _ (marked _ _ _ fitting).0 in
    let tested : is_content c.args.mark (bytes c.args.message.now c.args.first c.args.wide) ≡ c.is_content.result = sym (c.is_content.ensures ∙ ap₂ is_content (letter) (part_is _ _ _)) in no_content _ _ _ _ (fitting) (there) (tested ∙ c.if-not-is_content.true)

pub value_of-requires : goal.value_of-requires
value_of-requires c =
    let fitting : (is_scalar c.args.mark && eqb c.args.wide (due (kind_of c.args.kind) c.args.mark)) ≡ true = sym c.mark_fits.ensures ∙ c.if-not-mark_fits.false in
    let letter : c.of-letter.result.0 ≡ c.args.mark = c.of-letter.ensures ∙ letter_is _ (marked _ _ _ fitting).0 in
    let there : within (length c.args.message.now) c.args.first c.args.wide ≡ true = sym c.within.ensures ∙ c.if-not-within.false in
    let reach : c.args.first + c.args.wide ≤ length c.args.message.now = inside c.args.message.now _ _ there in
    let long : length (take (c.args.first + c.args.wide - c.args.first) (drop c.args.first c.args.message.now)) ≡ c.args.wide = ap length (part_is _ _ _) ∙ length-bytes c.args.message.now _ _ reach in
    rw (letter) (let w = marked _ _ _ (fitting) in omega (arith, long))

pub returns-clause-is : goal.returns-clause-is
returns-clause-is c =
    let fitting : (is_scalar c.args.mark && eqb c.args.wide (due (kind_of c.args.kind) c.args.mark)) ≡ true = sym c.mark_fits.ensures ∙ c.if-not-mark_fits.false in
    let there : within (length c.args.message.now) c.args.first c.args.wide ≡ true = sym c.within.ensures ∙ c.if-not-within.false in
    let letter : c.of-letter.result.0 ≡ c.args.mark = c.of-letter.ensures ∙ letter_is _ (marked _ _ _ fitting).0 in
    let tested : is_content c.args.mark (bytes c.args.message.now c.args.first c.args.wide) ≡ c.is_content.result = sym (c.is_content.ensures ∙ ap₂ is_content (letter) (part_is _ _ _)) in
    let v = c.value_of.ensures in ap (λ x. done (record { kind = kind_of c.args.kind; value = x })) (v.is ∙ ap₂ value_of (letter) (part_is _ _ _)) ∙ read _ _ _ _ (fitting) (there) (tested ∙ c.if-not-is_content.false)
