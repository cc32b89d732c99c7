-- `find`: a walk over members with a walk over bytes inside. What the definition gives from the key reached on is what it gives from
-- the first; and the bytes passed are equal. Assumes nothing.
use mathlib.Core.Path.{◌≡◌, refl, sym, ◌∙◌}
use mathlib.Core.Bool.{false}
use native.Mathlib.Omega.{arith}
use Rattle.ways.proofs.Exits.{passed_on}
use Rattle.lookup.proofs.Names.{equal, other_length, other_byte}
use Rattle.lookup.proofs.Walk.{named, names, key_inside, started, ended, stuck, hit, barred, higher, onward}
use Rattle.lookup.proofs.find.Goals as goal
use Rattle.lookup.proofs.find.Goals.{else-bytes-test, then-bytes-test+else-i-wide+then-message-first}

pub members-init : goal.members-init
members-init c =
    (refl, started _ _ _ _ _ c.requires)

pub returns-in_err-value : goal.returns-in_err-value
returns-in_err-value c =
    rw (passed_on _ _ c.from_residual.ensures.1) (stuck _ _ _ _ _ _ c.members.invariant.1 c.members-test.true _ (rw c.in_err-value.was at c.member.ensures))

pub bounds-message-first : goal.bounds-message-first
bounds-message-first c =
    let read = c.load-k.ensures.there (omega (arith, c.members-test.true, c.requires)) in
    let is = rw c.in_ok-value.was at c.member.ensures in
    omega (arith, key_inside c.args.message.now c.args.rows.now c.args.name.now _ _ _ _ read is)

pub returns-in_err-key : goal.returns-in_err-key
returns-in_err-key c =
    let read = c.load-k.ensures.there (omega (arith, c.members-test.true, c.requires)) in
    let is = rw c.in_ok-value.was at c.member.ensures in
    let reach = key_inside c.args.message.now c.args.rows.now c.args.name.now _ _ _ _ read is in
    let differs : named c.args.message.now c.args.rows.now c.args.name.now c.members.key ≡ false = names _ _ _ _ _ read ∙ elim c.bytes-test.branch [
      | else-bytes-test w ↦ other_length _ _ _ _ reach w.bytes-test.false
      | then-bytes-test+else-i-wide+then-message-first w ↦ other_byte _ _ _ _ reach c.bytes.i (let l = w.if-i-wide.false in let h = c.bytes.invariant.1 in omega arith) w.if-message-first.true
    ] in
    rw (passed_on _ _ c.from_residual-in_err-key.ensures.1) (barred _ _ _ _ _ _ c.members.invariant.1 c.members-test.true _ is differs _ (rw c.in_err-key.was at c.along.ensures))

pub members-smaller : goal.members-smaller
members-smaller c =
    let read = c.load-k.ensures.there (omega (arith, c.members-test.true, c.requires)) in
    let is = rw c.in_ok-value.was at c.member.ensures in
    let reach = key_inside c.args.message.now c.args.rows.now c.args.name.now _ _ _ _ read is in
    let differs : named c.args.message.now c.args.rows.now c.args.name.now c.members.key ≡ false = names _ _ _ _ _ read ∙ elim c.bytes-test.branch [
      | else-bytes-test w ↦ other_length _ _ _ _ reach w.bytes-test.false
      | then-bytes-test+else-i-wide+then-message-first w ↦ other_byte _ _ _ _ reach c.bytes.i (let l = w.if-i-wide.false in let h = c.bytes.invariant.1 in omega arith) w.if-message-first.true
    ] in
    omega (arith, higher _ _ _ _ _ _ c.members.invariant.1 c.members-test.true _ is differs _ (rw c.in_ok-key.was at c.along.ensures))

pub members-preserved : goal.members-preserved
members-preserved c =
    let read = c.load-k.ensures.there (omega (arith, c.members-test.true, c.requires)) in
    let is = rw c.in_ok-value.was at c.member.ensures in
    let reach = key_inside c.args.message.now c.args.rows.now c.args.name.now _ _ _ _ read is in
    let differs : named c.args.message.now c.args.rows.now c.args.name.now c.members.key ≡ false = names _ _ _ _ _ read ∙ elim c.bytes-test.branch [
      | else-bytes-test w ↦ other_length _ _ _ _ reach w.bytes-test.false
      | then-bytes-test+else-i-wide+then-message-first w ↦ other_byte _ _ _ _ reach c.bytes.i (let l = w.if-i-wide.false in let h = c.bytes.invariant.1 in omega arith) w.if-message-first.true
    ] in
    (c.bytes.invariant.0, onward _ _ _ _ _ _ c.members.invariant.1 c.members-test.true _ is differs _ (rw c.in_ok-key.was at c.along.ensures))

pub returns-after-members : goal.returns-after-members
returns-after-members c =
    rw c.members.invariant.0 (ended _ _ _ _ _ _ c.members.invariant.1 c.members-test.false)

pub returns-then-i-wide : goal.returns-then-i-wide
returns-then-i-wide c =
    let read = c.load-k.ensures.there (omega (arith, c.members-test.true, c.requires)) in
    let is = rw c.in_ok-value.was at c.member.ensures in
    let reach = key_inside c.args.message.now c.args.rows.now c.args.name.now _ _ _ _ read is in
    hit _ _ _ _ _ _ c.members.invariant.1 c.members-test.true _ is (names _ _ _ _ _ read ∙ equal _ _ _ _ reach c.bytes-test.true (rw (← c.if-i-wide.true) c.bytes.invariant.2))
