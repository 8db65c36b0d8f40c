-- Opening a deal. 01: The four operations, Opening a deal
use Rattle.deal.specs.Fields.{zero_terms}
use Rattle.deal.specs.Lists.{unless_refused}
use Rattle.deal.specs.Records.{without_protection}
use Rattle.deal.specs.Terms.{terms_refusal}
use Rattle.deal.specs.declared.terms.Terms.{Terms}
use Rattle.deal.specs.declared.deal.Deal.{Deal}

-- "A new deal's lists are all zeros". "A refusal gives no deal": beside it stands a record of zeros, which is no accepted deal
-- (`refused_not_accepted`)
unfoldable pub opened_deal : Terms → Deal
opened_deal t = unless_refused (terms_refusal t) (without_protection t) (without_protection zero_terms)
