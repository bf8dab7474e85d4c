-- Two codes compared pair by pair: what holds while the pairs are equal (`Agree`), and what each way out tells of the whole. For every
-- loop that compares. Assumes nothing.
use Rattle.std.specs.Prelude.{◌≡◌, List, ℕ, ◌+◌, ◌≤◌, ◌<◌, length, get_or, drop}
use Rattle.std.proofs.Common.{ap, ◌∙◌, add-zero, add-one, arith}
use Rattle.std.proofs.Math.ListN.{drop_of_length-le}
use Rattle.std.proofs.Math.Seq.{drop-cons}
use borrow.Author.Tests.{lt-ltb, le-ltb}
use Rattle.digit_code.specs.declared.Order.{Order}
use Rattle.digit_code.specs.declared.Order.TheVariants.{Less, Equal, Greater}
use Rattle.digit_code.specs.Compare.{lex, further}

-- answers some pairs later
pub further-none : (o : Order) → o ≡ further 0 o
further-none (Less n) = ap Less (omega arith)
further-none (Equal n) = ap Equal (omega arith)
further-none (Greater n) = ap Greater (omega arith)

pub further-more : (i k : ℕ) (o : Order) → further i (further k o) ≡ further (i + k) o
further-more i k (Less n) = ap Less (omega arith)
further-more i k (Equal n) = ap Equal (omega arith)
further-more i k (Greater n) = ap Greater (omega arith)

-- the first i pairs are equal
pub record Agree (a b : List ℕ) (i : ℕ) : Type 0 where
  pub first : i ≤ length a
  pub second : i ≤ length b
  pub same : lex a b ≡ further i (lex (drop i a) (drop i b))

pub none_yet : (a b : List ℕ) → Agree a b 0
none_yet a b = record { first = omega arith; second = omega arith; same = further-none (lex a b) }

module _ {a b : List ℕ} {i : ℕ} (g : Agree a b i) where
  pub second_ends : i < length a → length b ≤ i → Greater i ≡ lex a b
  unfolding lex
  second_ends h k = rw (g.same, drop-cons a i 0, drop_of_length-le b k, add-zero)

  pub first_ends : length a ≤ i → i < length b → Less i ≡ lex a b
  unfolding lex
  first_ends h k = rw (g.same, drop-cons b i 0, drop_of_length-le a h, add-zero)

  pub both_end : length a ≤ i → length b ≤ i → Equal i ≡ lex a b
  unfolding lex
  both_end h k = rw (g.same, drop_of_length-le a h, drop_of_length-le b k, add-zero)

  module _ (h : i < length a) (k : i < length b) where
    pub smaller : get_or a i 0 < get_or b i 0 → Less (i + 1) ≡ lex a b
    unfolding lex
    smaller l = rw (g.same, drop-cons a i 0, drop-cons b i 0, lt-ltb _ _ l)

    pub larger : get_or b i 0 < get_or a i 0 → Greater (i + 1) ≡ lex a b
    unfolding lex
    larger l = rw (g.same, drop-cons a i 0, drop-cons b i 0, le-ltb (get_or a i 0) (get_or b i 0) (omega arith), lt-ltb _ _ l)

    pub one_more : get_or a i 0 ≤ get_or b i 0 → get_or b i 0 ≤ get_or a i 0 → Agree a b (i + 1)
    one_more l m = record { first = omega arith; second = omega arith; same = g.same ∙ ap (further i) onward ∙ further-more i 1 (lex (drop (i + 1) a) (drop (i + 1) b)) }
      where
        onward : lex (drop i a) (drop i b) ≡ further 1 (lex (drop (i + 1) a) (drop (i + 1) b))
        onward =
            unfold lex in
            rw (add-one, drop-cons a i 0, drop-cons b i 0, le-ltb (get_or a i 0) (get_or b i 0) m, le-ltb (get_or b i 0) (get_or a i 0) l)
