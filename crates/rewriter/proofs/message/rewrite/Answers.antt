-- `rewrite`: read, written in one walk, and settled. Assumes nothing.
use native.Mathlib.Omega.{arith}
use Rattle.rewriter.proofs.Rewrites.{accepts, held_read, room_read, refused, settled}
use Rattle.rewriter.proofs.message.rewrite.Goals as goal

pub put_tokens-end-requires : goal.put_tokens-end-requires
put_tokens-end-requires c =
    let a = accepts _ _ (c.in-Ok.ensures.answer) in (held_read _ _ _ _ _ c.read.ensures.words a, room_read _ _ _ _ a)

pub returns-in-Err : goal.returns-in-Err
returns-in-Err c =
    let l = refused _ _ _ _ _ _ _ _ (c.in-Err.ensures.answer) c.clear.ensures c.read.ensures.words in
    record { answer = l.answers; output = l.output_is; words = l.words_are }

pub returns-in-Ok : goal.returns-in-Ok
returns-in-Ok c =
    let l = settled _ _ _ _ _ _ _ _ (accepts _ _ (c.in-Ok.ensures.answer)) c.read.ensures.words (omega arith) c.put_tokens-end.ensures.puts c.settle.ensures in
    record { answer = l.answers; output = l.output_is; words = l.words_are }
