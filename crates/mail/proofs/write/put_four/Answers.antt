use Rattle.std.proofs.Common.{arith}
use Rattle.mail.proofs.InLine.{first_room, second_room, third_room, fourth_room, one_put, two_put, three_put, four_put}
use Rattle.mail.proofs.write.put_four.Goals as goal

pub put_one-one-requires : goal.put_one-one-requires
put_one-one-requires c =
    let p = c.requires in
    (omega (arith, p.0.four), first_room _ _ _ _ _ _ p.1.fillable.filling p.0)

pub put_one-two-requires : goal.put_one-two-requires
put_one-two-requires c =
    let p = c.requires in
    let f = p.1.fillable.filling in
    let one = c.put_one-one.ensures in
    (omega (arith, p.0.four, (one_put _ _ _ _ _ _ f p.0 _ _ one).0), second_room _ _ _ _ _ _ f p.0 _ _ one)

pub put_one-three-requires : goal.put_one-three-requires
put_one-three-requires c =
    let p = c.requires in
    let f = p.1.fillable.filling in
    let one = c.put_one-one.ensures in
    let two = c.put_one-two.ensures in
    (omega (arith, p.0.four, (two_put _ _ _ _ _ _ f p.0 _ _ one _ _ two).0), third_room _ _ _ _ _ _ f p.0 _ _ one _ _ two)

pub put_one-requires : goal.put_one-requires
put_one-requires c =
    let p = c.requires in
    let f = p.1.fillable.filling in
    let one = c.put_one-one.ensures in
    let two = c.put_one-two.ensures in
    let three = c.put_one-three.ensures in
    (omega (arith, p.0.four, (three_put _ _ _ _ _ _ f p.0 _ _ one _ _ two _ _ three).0), fourth_room _ _ _ _ _ _ f p.0 _ _ one _ _ two _ _ three)

pub returns : goal.returns
returns c list buffer₀ list₀ f =
    four_put _ _ _ _ _ _ f c.requires.0 _ _ c.put_one-one.ensures _ _ c.put_one-two.ensures _ _ c.put_one-three.ensures _ _ c.put_one.ensures
