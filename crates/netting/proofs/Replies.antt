-- The reply by cases, and the room that an accepted set leaves. Assumes nothing.
use Rattle.std.proofs.Common.{if◌then◌else◌}
use Prim.Native.Nat.{ℕ, ◌<◌}
use mathlib.Core.Path.{◌≡◌, refl, sym, ap, ap₂, ◌∙◌}
use mathlib.Core.Bool.{Bool, true, false}
use mathlib.Core.List.{List}
use lib.Dec.{eqb}
use borrow.Author.Tests.{eq-eqb, eqb-true}
use Rattle.base.proofs.Choice.{if_true, if_false}
use Rattle.netting.specs.Exposure.{exposure_after_netting}
use Rattle.netting.specs.Limits.{Fitting}
use Rattle.netting.specs.Refusals.{set_refusal}
use Rattle.netting.specs.Reply.{refused_reply, reply_to, weighted_amount}
use Rattle.netting.specs.Terms.{set_terms_refusal}
use Rattle.netting.specs.declared.position.Position.{Position}
use Rattle.netting.specs.Reply.{NettingReply}
use Rattle.netting.specs.declared.terms.SetTerms.{SetTerms}
use Rattle.netting.proofs.Refusing.{plain_set, plain_set_terms, terms_refused, too_many}

abbrev pub figures : ℕ → ℕ → NettingReply
figures exposure rwa = record { refusal = 0; exposure = exposure; rwa = rwa }

pub same_figures : {e e' w w' : ℕ} → e ≡ e' → w ≡ w' → figures e w ≡ figures e' w'
same_figures p q = ap₂ figures p q

pub same_refused : {n m : ℕ} → n ≡ m → refused_reply n ≡ refused_reply m
same_refused e = ap refused_reply e

module _ (t : SetTerms) (n : ℕ) (ps : List Position) where
  pub refused_reply_lem : eqb (set_refusal t n ps) 0 ≡ false → reply_to t n ps ≡ refused_reply (set_refusal t n ps)
  unfolding reply_to
  refused_reply_lem e = if_false (eqb (set_refusal t n ps) 0) _ _ e

  pub accepted_reply : set_refusal t n ps ≡ 0 → reply_to t n ps ≡ figures (exposure_after_netting t ps) (weighted_amount t ps)
  unfolding reply_to
  accepted_reply e = if_true (eqb (set_refusal t n ps) 0) _ _ (eq-eqb _ 0 e)

  pub fitting : set_refusal t n ps ≡ 0 → Fitting t ps
  fitting e =
      let s = plain_set t n ps e in
      let i = (plain_set_terms t s.terms).interval in
      record { some_days = i.0; few_days = i.1; amounts = s.amounts }

-- more positions than a set may have are refused, whatever they are
pub many_alike : (t : SetTerms) (n : ℕ) (ps qs : List Position) → 32 < n → reply_to t n ps ≡ reply_to t n qs
many_alike t n ps qs h = refused_reply_lem t n ps (some ps) ∙ same_refused alike ∙ sym (refused_reply_lem t n qs (some qs))
  where
    by_terms : (rs : List Position) (b : Bool) → eqb (set_terms_refusal t) 0 ≡ b → set_refusal t n rs ≡ (if b then 6 else set_terms_refusal t)
    by_terms rs true e = too_many t n rs (eqb-true _ 0 e) h ∙ sym (if_true true 6 (set_terms_refusal t) refl)
    by_terms rs false e = terms_refused t n rs e ∙ sym (if_false false 6 (set_terms_refusal t) refl)

    alike : set_refusal t n ps ≡ set_refusal t n qs
    alike = by_terms ps _ refl ∙ sym (by_terms qs _ refl)

    some : (rs : List Position) → eqb (set_refusal t n rs) 0 ≡ false
    some rs = go (eqb (set_terms_refusal t) 0) refl
      where
        go : (b : Bool) → eqb (set_terms_refusal t) 0 ≡ b → eqb (set_refusal t n rs) 0 ≡ false
        go true e = ap (λ k. eqb k 0) (too_many t n rs (eqb-true _ 0 e) h)
        go false e = ap (λ k. eqb k 0) (terms_refused t n rs e) ∙ e
