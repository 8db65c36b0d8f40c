use Rattle.std.proofs.Common.{arith, refl, sym, ◌∙◌}
use borrow.Author.Tests.{ne_eqb}
use Rattle.mail.proofs.Filling.{fill_step, placeable}
use Rattle.mail.proofs.InLine.{put_on, room_on}
use Rattle.mail.proofs.Stepping.{four_before}
use Rattle.mail.proofs.write.put.Goals as goal

pub put_four-requires : goal.put_four-requires
put_four-requires c =
    (four_before _ _ (sym c.no_feed_in_four.ensures ∙ c.if-no_feed_in_four.true), record { list = _; fillable = c.requires.1 })

pub returns-then-no_feed_in_four : goal.returns-then-no_feed_in_four
returns-then-no_feed_in_four c buffer₀ list₀ f = c.put_four.ensures _ buffer₀ list₀ f

pub put_feed-requires : goal.put_feed-requires
put_feed-requires c = (c.if-b-eq-LINE_FEED.true, placeable _ _ _ _ _ _ c.requires.1.filling c.requires.0)

pub returns-then-b-eq-LINE_FEED : goal.returns-then-b-eq-LINE_FEED
returns-then-b-eq-LINE_FEED c buffer₀ list₀ f =
    let e = c.put_feed.ensures in
    (e.stepped.back, fill_step _ buffer₀ list₀ _ _ _ f _ _ _ e)

pub put_one-requires : goal.put_one-requires
put_one-requires c = (c.requires.0, room_on _ _ _ _ _ _ _ c.requires.0 c.requires.1.filling refl)

pub returns : goal.returns
returns c buffer₀ list₀ f =
    let r = put_on _ buffer₀ list₀ _ _ _ _ c.requires.0 f refl _ _ (ne_eqb _ _ c.if-b-eq-LINE_FEED.false) c.put_one.ensures in
    (omega (arith, r.0), r.1)
