-- `check_list` equals its definition: no call before the call `place` has a cause. Assumes nothing.
use Rattle.std.proofs.Common.{◌≡◌, length, ◌∙◌, sym, arith, rules}
use Rattle.std.proofs.lemmas.Result.{err_from_is_err_and, MatchResult-weaker}
use Rattle.list_check.proofs.Lists.{tested_none, tested_cause, early_none, verdict_early, verdict_late}
use Rattle.list_check.proofs.Lists.{slot_cause_is, within, stage_cause_is, check_more, check_stop, check_end}
use Rattle.list_check.proofs.check_list.Goals as goal

pub returns-in_err-check_before : goal.returns-in_err-check_before
returns-in_err-check_before c =
    let p = err_from_is_err_and c.from_residual.result c.from_residual.ensures.1 in
    rw (p.1, p.2) (verdict_early c.args.scene c.args.list.now _ c.in_err-check_before.ensures)

pub overflow_cast-place : goal.overflow_cast-place
overflow_cast-place c =
    let none = early_none c.args.scene c.args.list.now c.in_ok-check_before.ensures in
    omega (arith, none.short, c.as_chunks.ensures.front_len, c.loop-place-test.true)

pub returns-then-is_past : goal.returns-then-is_past
returns-then-is_past c =
    let s = c.args.scene in
    let l = c.args.list.now in
    check_stop l c.as_chunks.result.0.now c.loop-place.place c.as_chunks.ensures.front c.as_chunks.ensures.front_len s _ c.loop-place.invariant 4
    c.loop-place-test.true (slot_cause_is s _ _ _ c.is_past.ensures c.if-is_past.true) (omega arith)
    ∙ verdict_late s l c.in_ok-check_before.ensures

pub bounds-checked-slot : goal.bounds-checked-slot
bounds-checked-slot c =
    let none = early_none c.args.scene c.args.list.now c.in_ok-check_before.ensures in
    omega (arith, none.few_joints, within _ _ _ c.is_past.ensures c.if-is_past.false)

pub returns-in_err-map_err : goal.returns-in_err-map_err
returns-in_err-map_err c =
    let s = c.args.scene in
    let l = c.args.list.now in
    let none = early_none s l c.in_ok-check_before.ensures in
    let long : length s.joints ≡ 32 = search rules in
    let cause =
    stage_cause_is s c.check_joints-checked.result _ _ _ _ _ long none.few_joints c.check_joints-checked.ensures
    c.is_past.ensures c.if-is_past.false c.check_stage.ensures in
    let p = err_from_is_err_and c.from_residual-in_err-map_err.result c.from_residual-in_err-map_err.ensures.1 in
    let cases = MatchResult-weaker c.check_stage.result c.in_err-map_err.ensures.cases (λ x h. h) (λ k h. search rules) in
    let found = tested_cause c.check_stage.result c.in_err-map_err.field-0.0 c.loop-place.place cases in
    rw (p.1, p.2)
    (found.1
    ∙ check_stop l c.as_chunks.result.0.now c.loop-place.place c.as_chunks.ensures.front c.as_chunks.ensures.front_len s _ c.loop-place.invariant
    _ c.loop-place-test.true cause found.0
    ∙ verdict_late s l c.in_ok-check_before.ensures)

pub loop-place-preserved : goal.loop-place-preserved
loop-place-preserved c =
    let s = c.args.scene in
    let l = c.args.list.now in
    let none = early_none s l c.in_ok-check_before.ensures in
    let long : length s.joints ≡ 32 = search rules in
    let cause =
    stage_cause_is s c.check_joints-checked.result _ _ _ _ _ long none.few_joints c.check_joints-checked.ensures
    c.is_past.ensures c.if-is_past.false c.check_stage.ensures in
    check_more l c.as_chunks.result.0.now c.loop-place.place c.as_chunks.ensures.front c.as_chunks.ensures.front_len s _ c.loop-place.invariant
    _ c.loop-place-test.true cause (tested_none c.check_stage.result (sym c.in_ok-map_err.ensures.variant))

pub returns : goal.returns
returns c =
    let s = c.args.scene in
    let l = c.args.list.now in
    check_end l c.as_chunks.result.0.now c.loop-place.place c.as_chunks.ensures.front c.as_chunks.ensures.front_len s _ c.loop-place.invariant
    c.loop-place-test.false
    ∙ verdict_late s l c.in_ok-check_before.ensures
