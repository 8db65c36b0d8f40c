use Rattle.std.proofs.Common.{arith, ◌≡◌, ◌∙◌, sym, get_or, length, true, false}
use Rattle.lines.specs.Numbers.{is_digit}
use Rattle.lines.proofs.NumberLaws.{ended_by_other, ended_by_end, full, more, digit_told}
use Rattle.lines.proofs.number.read_number.Goals as goal

pub returns-then-not-is_ascii_digit : goal.returns-then-not-is_ascii_digit
returns-then-not-is_ascii_digit c =
    let e : is_digit (get_or c.args.text.now c.loop-digits.digits 0) ≡ false = digit_told _ ∙ sym c.is_ascii_digit.ensures.value ∙ c.if-not-is_ascii_digit.true in
    c.ended.ensures ∙ ended_by_other _ _ _ c.loop-digits.invariant (omega arith) e

pub returns-then-digits-ge-MOST_DIGITS : goal.returns-then-digits-ge-MOST_DIGITS
returns-then-digits-ge-MOST_DIGITS c =
    let e : is_digit (get_or c.args.text.now c.loop-digits.digits 0) ≡ true = digit_told _ ∙ sym c.is_ascii_digit.ensures.value ∙ c.if-not-is_ascii_digit.false in
    sym (full _ _ _ c.loop-digits.invariant (omega arith) (omega arith) e)

pub loop-digits-preserved : goal.loop-digits-preserved
loop-digits-preserved c =
    let e : is_digit (get_or c.args.text.now c.loop-digits.digits 0) ≡ true = digit_told _ ∙ sym c.is_ascii_digit.ensures.value ∙ c.if-not-is_ascii_digit.false in
    more _ _ _ c.loop-digits.invariant _ (omega arith) (omega arith) e (omega arith)

pub returns : goal.returns
returns c =
    let e : c.loop-digits.digits ≡ length c.args.text.now = omega arith in
    c.ended-2.ensures ∙ rw e at (ended_by_end _ _ _ c.loop-digits.invariant (omega arith))
