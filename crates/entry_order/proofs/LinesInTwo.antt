-- A line of cash keyed as two, in the answer to its deal. 02: L7. Assumes nothing.
use Prim.Native.Nat.{ℕ, ◌+◌, ◌<◌}
use mathlib.Core.Path.{◌≡◌, refl, sym, ap, ◌∙◌}
use mathlib.Core.List.{List, [], ◌∷◌, map}
use native.Mathlib.Omega.{arith}
use lib.ListN.{length}
use Rattle.base.specs.Reordered.{Inserted, Reordered, how_many}
use Rattle.base.proofs.Reordered.{all_inserted, and_then, brought, brought_inserted, inserted_all, kept, length_reordered, map_inserted}
use Rattle.deal.specs.Editions.{table_for}
use Rattle.deal.specs.Lists.{list_limit}
use Rattle.deal.specs.Views.{View}
use Rattle.deal.specs.declared.terms.Terms.{Terms}
use Rattle.deal.specs.declared.collateral.Collateral.{Collateral}
use Rattle.deal.specs.declared.guarantee.Guarantee.{Guarantee}
use Rattle.deal_laws.proofs.Views.{view_of_record}
use Rattle.lines.specs.Lines.{line_of}
use Rattle.lines.specs.declared.line.Line.{Line}
use Rattle.lines.specs.declared.line.Line.TheVariants.{CollateralLine}
use Rattle.relief.specs.Exposure.{exposure_after, risk_weighted_amount_of}
use Rattle.book.specs.Answers.{deal_answer}
use Rattle.book.specs.Deals.{DealLines}
use Rattle.book.specs.Opening.{opening_terms}
use Rattle.entry_order.specs.Keyed.{LineInTwo, NotRefused, is_collateral_line}
use Rattle.entry_order.specs.SameItems.{SameItems}
use Rattle.entry_order.specs.Split.{MatchedCash, SplitInTwo, with_amount}
use Rattle.entry_order.proofs.InBooks.{AllTaken, keyed, not_refused_taken, said, same_answer, taken_keyed, terms}
use Rattle.entry_order.proofs.Letters.{fewer_said, opening_edition}
use Rattle.entry_order.proofs.Order.{amount_any_order, exposure_any_order, figures_by_views}
use Rattle.entry_order.proofs.Splitting.{amount_split, exposure_split, smaller_fits}
use Rattle.entry_order.proofs.Taken.{Taken, collateral_said, guarantees_said, line_fits}

-- what lines say, one of them an item of collateral: the item in front of what the others say, in some order
module _ (c : Collateral) {line : Line} {others all : List Line} (i : Inserted line others all) (e : line ≡ CollateralLine c) where
  collateral_there : Reordered (c ∷ brought collateral_said others) (brought collateral_said all)
  collateral_there = rw e at (brought_inserted collateral_said i)

  guarantees_there : Reordered (brought guarantees_said others) (brought guarantees_said all)
  guarantees_there = rw e at (brought_inserted guarantees_said i)

-- the two lines in the place of one, by what they say
pub record SaidInTwo (t : Terms) (whole both : List Line) : Type 0 where
  pub item : Collateral
  pub is_cash : MatchedCash t item
  pub first : ℕ
  pub second : ℕ
  pub adds_up : first + second ≡ item.amount
  pub others : List Line
  pub some : List Line
  pub item_there : Inserted (CollateralLine item) others whole
  pub first_there : Inserted (CollateralLine (with_amount first item)) others some
  pub second_there : Inserted (CollateralLine (with_amount second item)) some both

module _ (t : Terms) (whole both : List Line) (s : SaidInTwo t whole both) where
  abbrev view : List Collateral → List Guarantee → View
  view cs gs = record { terms = t; collateral = cs; guarantees = gs }

  -- the items of the other lines; this one, or its parts, in front of them
  abbrev cs : List Collateral
  cs = brought collateral_said s.others

  abbrev gs : List Guarantee
  gs = brought guarantees_said s.others

  abbrev parts : List Collateral
  parts = with_amount s.second s.item ∷ with_amount s.first s.item ∷ cs

  abbrev said_view : List Line → View
  said_view lines = view (brought collateral_said lines) (brought guarantees_said lines)

  whole_order : SameItems (view (s.item ∷ cs) gs) (said_view whole)
  whole_order = record { terms = refl; collateral = collateral_there s.item s.item_there refl; guarantees = guarantees_there s.item s.item_there refl }

  both_order : SameItems (view parts gs) (said_view both)
  both_order = record {
    terms = refl;
    collateral = and_then (kept (collateral_there _ s.first_there refl)) (collateral_there _ s.second_there refl);
    guarantees = and_then (guarantees_there _ s.first_there refl) (guarantees_there _ s.second_there refl);
  }

  in_two_lem : SplitInTwo (view (s.item ∷ cs) gs) (view parts gs)
  in_two_lem = record {
    terms = refl;
    collateral = record {
      item = s.item;
      is_cash = s.is_cash;
      first = s.first;
      second = s.second;
      adds_up = s.adds_up;
      others = cs;
      with_first = with_amount s.first s.item ∷ cs;
      item_there = Inserted.here;
      first_there = Inserted.here;
      second_there = Inserted.here;
    };
    guarantees = refl;
  }

  pub exposure_in_two : exposure_after (table_for t) (said_view whole) ≡ exposure_after (table_for t) (said_view both)
  exposure_in_two =
      sym (exposure_any_order (table_for t) _ _ whole_order) ∙ exposure_split _ _ in_two_lem ∙ exposure_any_order (table_for t) _ _ both_order

  pub amount_in_two : risk_weighted_amount_of (table_for t) (said_view whole) ≡ risk_weighted_amount_of (table_for t) (said_view both)
  amount_in_two =
      sym (amount_any_order (table_for t) _ _ whole_order) ∙ amount_split _ _ in_two_lem ∙ amount_any_order (table_for t) _ _ both_order

  -- and all are taken, while both fit
  pub also_taken : Taken [] [] whole → length (brought collateral_said whole) < list_limit → Taken [] [] both
  also_taken k room =
      let out = inserted_all line_fits s.item_there k.fits in
      let one = all_inserted line_fits s.first_there (smaller_fits s.first s.item (omega (arith, s.adds_up)) out.0) out.1 in
      record {
        fits = all_inserted line_fits s.second_there (smaller_fits s.second s.item (omega (arith, s.adds_up)) out.0) one;
        collateral = omega (arith, room, length_reordered whole_order.collateral, length_reordered both_order.collateral);
        guarantees = omega (arith, k.guarantees, length_reordered whole_order.guarantees, length_reordered both_order.guarantees);
      }

-- ---- the deal's lines
module _ (edition : ℕ) (opening : List ℕ) (number number' : ℕ) (further further' : List (List ℕ)) where
  abbrev one : DealLines
  one = record { number = number; opening = opening; further = further }

  abbrev other : DealLines
  other = record { number = number'; opening = opening; further = further' }

  answers_in_two : SaidInTwo (terms edition one) (said edition one) (said edition other) → AllTaken edition one →
      length (brought collateral_said (said edition one)) < list_limit → deal_answer edition one ≡ deal_answer edition other
  answers_in_two s k room =
      let t = terms edition one in
      let a = taken_keyed edition one k in
      let b = taken_keyed edition other (record { opening = k.opening; lines = also_taken t (said edition one) (said edition other) s k.lines room }) in
      let whole = view_of_record (said_view t (said edition one) (said edition other) s (said edition one)) in
      let both = view_of_record (said_view t (said edition one) (said edition other) s (said edition other)) in
      a.0
      ∙ same_answer _ _ (figures_by_views (keyed edition one) (keyed edition other) a.1 b.1 refl
      (rw (whole, both) (exposure_in_two t (said edition one) (said edition other) s))
      (rw (whole, both) (amount_in_two t (said edition one) (said edition other) s)))
      ∙ sym b.0

-- THE LAW: a deal of a book none of whose lines is refused has the same answer where a line of cash is keyed as two, while both fit
module _ (edition : ℕ) (deal deal' : DealLines) (s : LineInTwo edition deal deal') where
  -- a line reads by the edition that the deal holds as by the book's
  as_read : AllTaken edition deal → (line : List ℕ) {c : Collateral} → line_of edition line ≡ CollateralLine c → line_of (terms edition deal).edition line ≡ CollateralLine c
  as_read k line e = ap (λ n. line_of n line) (opening_edition edition deal.opening k.opening) ∙ e

  -- the terms that the deal is opened with
  opened_with : terms edition deal ≡ s.terms
  unfolding opening_terms
  opened_with = ap opening_terms s.opens

  said_in_two : AllTaken edition deal → SaidInTwo (terms edition deal) (said edition deal) (map (line_of (terms edition deal).edition) deal'.further)
  said_in_two k =
      let f = line_of (terms edition deal).edition in
      record {
        item = s.item;
        is_cash = rw opened_with s.is_cash;
        first = s.first;
        second = s.second;
        adds_up = s.adds_up;
        others = map f s.others;
        some = map f s.with_first;
        item_there = rw (as_read k s.line s.says) at (map_inserted f s.line_there);
        first_there = rw (as_read k s.first_line' s.first_says) at (map_inserted f s.first_there);
        second_there = rw (as_read k s.second_line s.second_says) at (map_inserted f s.second_there);
      }

  pub line_in_two_answer : NotRefused edition deal → how_many is_collateral_line deal.further < list_limit → deal_answer edition deal ≡ deal_answer edition deal'
  line_in_two_answer e room =
      let k = not_refused_taken edition deal e in
      answers_in_two edition deal.opening deal.number deal'.number deal.further deal'.further (said_in_two k) k (omega (arith, room, fewer_said (terms edition deal).edition deal.further))
      ∙ ap (λ o. deal_answer edition (record { number = deal'.number; opening = o; further = deal'.further })) s.opening
