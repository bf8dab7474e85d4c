-- `listing_text::first` meets its contract, for lines of each kind. Assumes nothing.
use mathlib.Core.Path.{sym, subst}
use Rattle.refusal.specs.document.Outcome.{told}
use Rattle.listing_text.specs.Steps.{lines_of_kind, Allowed, Replied}
use Rattle.listing_text.specs.declared.Kind.{Kind}
use Rattle.listing_text.proofs.first.Goals as goal

pub first_plain-requires : goal.first_plain-requires
first_plain-requires c = subst (λ (k : Kind). Allowed k) c.in-Plain.is c.requires

pub returns-in-Plain : goal.returns-in-Plain
returns-in-Plain c = subst (λ (k : Kind). Replied (lines_of_kind k) c.args.text.now (told c.first_plain.result)) (sym c.in-Plain.is) c.first_plain.ensures

pub returns-in-Named : goal.returns-in-Named
returns-in-Named c = subst (λ (k : Kind). Replied (lines_of_kind k) c.args.text.now (told c.first_named.result)) (sym c.in-Named.is) c.first_named.ensures
