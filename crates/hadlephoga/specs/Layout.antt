-- The number of the layout: what callers in other languages may rely on. 02: L5 changes it for the first time.
--
-- THE RULE OF CHANGE. The layout is how many numbers there are of terms, of an item, of a record, of a report, of a set and of a position, their order and what each of
-- them means; the arguments of the operations; and what the numbers of refusals and grounds mean. Whenever any of it changes, the number rises
-- by 1, in the same landing, and the header says what changed. While the number stays, a program that was built for it gets, for every call
-- that was taken, the answer it would have got before; what was refused may be taken later (as a longer term is since L11, and edition 3 since
-- L9). An operation that is new beside the others leaves the number alone.
use Rattle.std.specs.Prelude.{ℕ}

-- 1: document 01: terms 10, guarantee 9, record 332. It had no number that could be asked for
-- 2: a party's sovereign's step behind its step, the edition as the last of the terms: terms 12, guarantee 10, record 350
-- 3: an item's instrument as the last of its numbers in a record (02: L1): guarantee 11, record 366. What is sent to add a guarantee stays ten
-- 4: in a report, what the haircut took, what the maturity step took, what was cut and the amount left out, behind an item's value and ground (02:
--    L2): an item of collateral six numbers where there were two; a guarantee seven where there were three, its portion the last. Report 211 where
--    there were 83, so that a shorter lent list is 13
abbrev pub layout : ℕ
layout = 4
