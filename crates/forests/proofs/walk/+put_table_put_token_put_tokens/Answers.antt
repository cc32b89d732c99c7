-- The cycle of `put_tokens`, `put_token` and `put_table`: a token's rows are among those of the tokens, and those below it are fewer.
-- Assumes nothing.
use mathlib.Core.Path.{refl, sym, ◌∙◌}
use native.Mathlib.Omega.{arith}
use borrow.Author.Tests.{ne_eqb}
use Rattle.rows.specs.Row as Row
use Rattle.pieces.proofs.Putting.{puts_append}
use Rattle.forests.proofs.Steps.{held_step, token-single, token_nested, token-table}
use Rattle.forests.proofs.Going.{going_start, going_on, going_end}
use Rattle.forests.proofs.Lengths.{head_few, middle_few, single_few, tail_few}
use Rattle.forests.proofs.walk.+put_table_put_token_put_tokens.Goals as goal

pub put_table-put_tokens-schema-requires : goal.put_table-put_tokens-schema-requires
put_table-put_tokens-schema-requires t c =
    let o = token-table _ _ _ _ c.requires.0 c.requires.2 _ c.link-split.ensures in
    let s = o.schema.ends in
    let d = o.dimensions.ends in
    let h = c.put_head-start.ensures.reach in let hf = head_few (Row.row_of c.args.r) in
    let w = c.requires.1.low in let l = c.requires.0.ends in
    (omega arith, (o.schema, record { short = c.requires.1.short; low = omega arith }))

pub put_table-put_middle-middle-requires : goal.put_table-put_middle-middle-requires
put_table-put_middle-middle-requires t c =
    let o = token-table _ _ _ _ c.requires.0 c.requires.2 _ c.link-split.ensures in
    let s = o.schema.ends in
    let d = o.dimensions.ends in
    let h = c.put_head-start.ensures.reach in let hf = head_few (Row.row_of c.args.r) in
    let w = c.requires.1.low in let l = c.requires.0.ends in
    let b = c.put_tokens-schema.ensures.bounds in
    omega arith

pub put_table-put_tokens-end-requires : goal.put_table-put_tokens-end-requires
put_table-put_tokens-end-requires t c =
    let o = token-table _ _ _ _ c.requires.0 c.requires.2 _ c.link-split.ensures in
    let s = o.schema.ends in
    let d = o.dimensions.ends in
    let h = c.put_head-start.ensures.reach in let hf = head_few (Row.row_of c.args.r) in
    let w = c.requires.1.low in let l = c.requires.0.ends in
    let b = c.put_tokens-schema.ensures.bounds in
    let mm = c.put_middle-middle.ensures.reach in let mf = middle_few (Row.row_of c.args.r) in
    (omega arith, (o.dimensions, record { short = c.requires.1.short; low = omega arith }))

pub put_table-put_tail-requires : goal.put_table-put_tail-requires
put_table-put_tail-requires t c =
    let o = token-table _ _ _ _ c.requires.0 c.requires.2 _ c.link-split.ensures in
    let s = o.schema.ends in
    let d = o.dimensions.ends in
    let h = c.put_head-start.ensures.reach in let hf = head_few (Row.row_of c.args.r) in
    let w = c.requires.1.low in let l = c.requires.0.ends in
    let b = c.put_tokens-schema.ensures.bounds in
    let mm = c.put_middle-middle.ensures.reach in let mf = middle_few (Row.row_of c.args.r) in
    let b2 = c.put_tokens-end.ensures.bounds in
    omega arith

pub put_table-returns-clause-puts : goal.put_table-returns-clause-puts
put_table-returns-clause-puts t c =
    let o = token-table _ _ _ _ c.requires.0 c.requires.2 _ c.link-split.ensures in
    let s = o.schema.ends in
    let d = o.dimensions.ends in
    let h = c.put_head-start.ensures.reach in let hf = head_few (Row.row_of c.args.r) in
    let w = c.requires.1.low in let l = c.requires.0.ends in
    let b = c.put_tokens-schema.ensures.bounds in
    let mm = c.put_middle-middle.ensures.reach in let mf = middle_few (Row.row_of c.args.r) in
    let b2 = c.put_tokens-end.ensures.bounds in
    let tr = c.put_tail.ensures.reach in let tf = tail_few c.args.message.now c.requires.1.short (Row.row_of c.args.r) in λ x.
    let y = token-table _ _ _ _ x c.requires.2 _ c.link-split.ensures in
    rw (y.form c.args.message.now)
    (puts_append _ _ (puts_append _ _ (puts_append _ _ (puts_append _ _ c.put_head-start.ensures (c.put_tokens-schema.ensures.puts y.schema)) c.put_middle-middle.ensures) (c.put_tokens-end.ensures.puts y.dimensions)) c.put_tail.ensures)

pub put_table-returns-clause-bounds : goal.put_table-returns-clause-bounds
put_table-returns-clause-bounds t c =
    let o = token-table _ _ _ _ c.requires.0 c.requires.2 _ c.link-split.ensures in
    let s = o.schema.ends in
    let d = o.dimensions.ends in
    let h = c.put_head-start.ensures.reach in let hf = head_few (Row.row_of c.args.r) in
    let w = c.requires.1.low in let l = c.requires.0.ends in
    let b = c.put_tokens-schema.ensures.bounds in
    let mm = c.put_middle-middle.ensures.reach in let mf = middle_few (Row.row_of c.args.r) in
    let b2 = c.put_tokens-end.ensures.bounds in
    let tr = c.put_tail.ensures.reach in let tf = tail_few c.args.message.now c.requires.1.short (Row.row_of c.args.r) in omega arith

pub put_token-returns-then-is_single-clause-puts : goal.put_token-returns-then-is_single-clause-puts
put_token-returns-then-is_single-clause-puts t c =
    let s = c.put_single.ensures.reach in
    let f = single_few c.args.message.now c.requires.1.short (Row.row_of c.args.r) in
    let w = c.requires.1.low in let l = c.requires.0.ends in λ x. rw (token-single _ _ _ _ x (sym c.is_single.ensures ∙ c.if-is_single.true) c.args.message.now) c.put_single.ensures

pub put_token-returns-then-is_single-clause-bounds : goal.put_token-returns-then-is_single-clause-bounds
put_token-returns-then-is_single-clause-bounds t c =
    let s = c.put_single.ensures.reach in
    let f = single_few c.args.message.now c.requires.1.short (Row.row_of c.args.r) in
    let w = c.requires.1.low in let l = c.requires.0.ends in omega arith

pub put_token-put_tokens-end-requires : goal.put_token-put_tokens-end-requires
put_token-put_tokens-end-requires t c =
    let i = token_nested _ _ _ _ c.requires.0 (sym c.is_single.ensures ∙ c.if-is_single.false) (ne_eqb _ _ (rw c.number.ensures at c.if-r-number.false)) in
    let h = c.put_head-start.ensures.reach in let hf = head_few (Row.row_of c.args.r) in
    let w = c.requires.1.low in let l = c.requires.0.ends in
    (omega arith, (i.held, record { short = c.requires.1.short; low = omega arith }))

pub put_token-put_tail-requires : goal.put_token-put_tail-requires
put_token-put_tail-requires t c =
    let h = c.put_head-start.ensures.reach in let hf = head_few (Row.row_of c.args.r) in
    let w = c.requires.1.low in let l = c.requires.0.ends in
    let b = c.put_tokens-end.ensures.bounds in
    omega arith

pub put_token-returns-clause-puts : goal.put_token-returns-clause-puts
put_token-returns-clause-puts t c =
    let h = c.put_head-start.ensures.reach in let hf = head_few (Row.row_of c.args.r) in
    let w = c.requires.1.low in let l = c.requires.0.ends in
    let b = c.put_tokens-end.ensures.bounds in
    let tr = c.put_tail.ensures.reach in let tf = tail_few c.args.message.now c.requires.1.short (Row.row_of c.args.r) in λ x.
    let i = token_nested _ _ _ _ x (sym c.is_single.ensures ∙ c.if-is_single.false) (ne_eqb _ _ (rw c.number.ensures at c.if-r-number.false)) in
    rw (i.form c.args.message.now) (puts_append _ _ (puts_append _ _ c.put_head-start.ensures (c.put_tokens-end.ensures.puts i.held)) c.put_tail.ensures)

pub put_token-returns-clause-bounds : goal.put_token-returns-clause-bounds
put_token-returns-clause-bounds t c =
    let h = c.put_head-start.ensures.reach in let hf = head_few (Row.row_of c.args.r) in
    let w = c.requires.1.low in let l = c.requires.0.ends in
    let b = c.put_tokens-end.ensures.bounds in
    let tr = c.put_tail.ensures.reach in let tf = tail_few c.args.message.now c.requires.1.short (Row.row_of c.args.r) in omega arith

pub put_tokens-loop-row-init : goal.put_tokens-loop-row-init
put_tokens-loop-row-init t c =
    let e = c.requires.0.ends in (omega arith, omega arith, omega arith, refl, λ h. going_start _ _ _ _ _ _ h)

pub put_tokens-put_token-to-requires : goal.put_tokens-put_token-to-requires
put_tokens-put_token-to-requires t c =
    let g = c.loop-row.invariant.4 c.requires.0 in let i = c.requires.0.inside in let s = held_step g.left _ _ c.loop-row-test.true (c.load-r.ensures.there (omega (arith, c.loop-row-test.true))) refl in
    let w = c.requires.1.low in
    let n = c.loop-row.invariant in
    (omega arith, (s.first, record { short = c.requires.1.short; low = omega arith }))

pub put_tokens-loop-row-smaller : goal.put_tokens-loop-row-smaller
put_tokens-loop-row-smaller t c =
    let g = c.loop-row.invariant.4 c.requires.0 in let i = c.requires.0.inside in let s = held_step g.left _ _ c.loop-row-test.true (c.load-r.ensures.there (omega (arith, c.loop-row-test.true))) refl in
    omega arith

pub put_tokens-loop-row-preserved : goal.put_tokens-loop-row-preserved
put_tokens-loop-row-preserved t c =
    let g = c.loop-row.invariant.4 c.requires.0 in let i = c.requires.0.inside in let s = held_step g.left _ _ c.loop-row-test.true (c.load-r.ensures.there (omega (arith, c.loop-row-test.true))) refl in
    let n = c.loop-row.invariant in
    let b = c.put_token-to.ensures.bounds in (
      omega arith,
      s.on,
      omega arith,
      (let e = (c.put_token-to.ensures.puts s.first).kept in e ∙ n.3),
      λ h.
          let g' = n.4 h in
          let s' = held_step g'.left _ _ c.loop-row-test.true (c.load-r.ensures.there (omega (arith, c.loop-row-test.true))) refl in
          going_on g' s' (c.put_token-to.ensures.puts s'.first),
    )

pub put_tokens-returns-clause-puts : goal.put_tokens-returns-clause-puts
put_tokens-returns-clause-puts t c =
    λ h. going_end (c.loop-row.invariant.4 h) c.loop-row-test.false
