use Rattle.std.proofs.Common.{arith}
use Rattle.result.proofs.WrittenList.{list_too_short, list_too_few, list_lines, list_refused}
use Rattle.result.proofs.list.write_list.Goals as goal

pub returns-then-out-lt-LONGEST_REFUSAL : goal.returns-then-out-lt-LONGEST_REFUSAL
returns-then-out-lt-LONGEST_REFUSAL c = list_too_short _ _ _ _ (omega arith)

pub returns-then-out-count : goal.returns-then-out-count
returns-then-out-count c = list_too_short _ _ _ _ (omega arith)

pub returns-then-numbers-count : goal.returns-then-numbers-count
returns-then-numbers-count c = list_too_few _ _ _ _ (omega arith) (omega arith)

pub returns-then-refusal-eq0 : goal.returns-then-refusal-eq0
returns-then-refusal-eq0 c = list_lines _ _ _ _ (omega arith) (omega arith) _ _ c.if-refusal-eq0.true c.put_numbers.ensures

pub returns : goal.returns
returns c = list_refused _ _ _ _ (omega arith) (omega arith) _ _ c.if-refusal-eq0.false c.put_refusal.ensures
