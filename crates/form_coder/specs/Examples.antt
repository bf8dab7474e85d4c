-- The sums, run on small skeletons. Assumes nothing.
use Rattle.std.specs.Prelude.{◌≡◌, refl, ℕ}
use Rattle.std.proofs.Math.Logic.{Dec.not as dec_not}
use mathlib.Core.List.{List, [], ◌∷◌, flatten}
use Rattle.std.proofs.Math.Decide.{ℕ_discrete, dec_lt}
use Rattle.laws.specs.document.Order.{dec≽, insert, sort}
use Rattle.digit_code.specs.document.Code.{sum}
use Rattle.skeleton.specs.document.Skeleton.{arcs, neighbours, degree, children, join, code_at}
use Rattle.numbering.specs.document.Pairs.{digit_pairs, sibling_pairs, pairs_at, rooted_pairs}
use Rattle.form_coder.specs.document.Pairs.{of_degree}

-- butane: its two middles have the maximum degree; at each 10 and 0 are compared, in one pair
abbrev butane : List ℕ
butane = 1 ∷ 2 ∷ 2 ∷ 3 ∷ 3 ∷ 4 ∷ []

of_butane : of_degree butane (rooted_pairs 4 butane) 2 4 ≡ 2
unfolding of_degree degree rooted_pairs pairs_at sibling_pairs digit_pairs sum code_at join children neighbours arcs sort insert dec≽ flatten ℕ_discrete dec_lt dec_not
of_butane = refl

its_roots : of_degree butane (λ v. 1) 2 4 ≡ 2
unfolding of_degree degree neighbours arcs ℕ_discrete
its_roots = refl

-- isobutane has one vertex of maximum degree, at which three pairs of leaves are compared
abbrev isobutane : List ℕ
isobutane = 1 ∷ 2 ∷ 1 ∷ 3 ∷ 1 ∷ 4 ∷ []

of_isobutane : of_degree isobutane (rooted_pairs 4 isobutane) 3 4 ≡ 3
unfolding of_degree degree rooted_pairs pairs_at sibling_pairs digit_pairs sum code_at join children neighbours arcs sort insert dec≽ flatten ℕ_discrete dec_lt dec_not
of_isobutane = refl
