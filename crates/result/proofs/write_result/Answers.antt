use Rattle.std.proofs.Common.{arith}
use Rattle.base.proofs.Writing.{placed_joined}
use Rattle.result.specs.Result.{heading}
use Rattle.result.proofs.WrittenResult.{result_too_short, result_too_few, result_lines, result_refused}
use Rattle.result.proofs.write_result.Goals as goal

pub returns-then-out-lt-LONGEST_REFUSAL : goal.returns-then-out-lt-LONGEST_REFUSAL
returns-then-out-lt-LONGEST_REFUSAL c = result_too_short _ _ _ _ (omega arith)

pub returns-then-out-deals : goal.returns-then-out-deals
returns-then-out-deals c = result_too_short _ _ _ _ (omega arith)

pub returns-then-results-deals : goal.returns-then-results-deals
returns-then-results-deals c = result_too_few _ _ _ _ (omega arith) (omega arith)

pub returns-then-refusal-eq0 : goal.returns-then-refusal-eq0
returns-then-refusal-eq0 c = result_lines _ _ _ _ (omega arith) (omega arith) _ _ c.if-refusal-eq0.true (placed_joined 0 heading _ _ _ _ _ _ (omega arith) c.put_bytes-start.ensures c.put_rows.ensures)

pub returns : goal.returns
returns c = result_refused _ _ _ _ (omega arith) (omega arith) _ _ c.if-refusal-eq0.false c.put_refusal.ensures
