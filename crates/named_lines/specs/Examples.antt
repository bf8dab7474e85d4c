-- The definitions, run on figures of named lines. Assumes nothing.
use Rattle.std.specs.Prelude.{◌≡◌, refl, List, [], ◌∷◌, ◌++◌, map, ℕ, replicate}
use Rattle.std.proofs.Common.{⊎_elim, arith}
use Rattle.std.proofs.Math.Decide.{dec_lt, ℕ_discrete}
use Rattle.refusal.specs.document.Table.{FirstRefusal}
use Rattle.skeleton.specs.document.Atom.{C, O}
use Rattle.refusal.specs.Laws.{clear_one, clear_both, refusal_front}
use Rattle.refusal.proofs.Laws.{first-place, refusal_back}
use Rattle.texts.specs.document.Bytes.{Cut}
use Rattle.texts.specs.document.Numerals.{figures, decimal, one-digit, says}
use Rattle.texts.specs.document.Text.{PartRow, through, line_rows}
use Rattle.texts.specs.document.Demand.{handed_out}
use Rattle.texts.specs.Judging.{judging, judged, none}
use Rattle.texts.specs.Answered.{line_refuses}
use Rattle.texts.specs.document.Parts.{spaced, tally}
use Rattle.texts.specs.Numbers.{count-number}
use Rattle.lines.specs.document.Line.{front, row3-line, row5_line}
use Rattle.named_lines.specs.document.Named.{Named, named_body, Parts, NamedFormed, Matches, row21, carried, lines_of_named}
use Rattle.named_lines.specs.document.NamedDemand.{named_kind}
use Rattle.named_lines.specs.NamedSound.{named_once}

-- methanol, 2 10 OC 1 0 1
methanol : named_body (record { digits = 1 ∷ 0 ∷ []; letters = 79 ∷ 67 ∷ [] }) ≡ 50 ∷ 32 ∷ 49 ∷ 48 ∷ 32 ∷ 79 ∷ 67 ∷ 32 ∷ 49 ∷ 32 ∷ 48 ∷ 32 ∷ 49 ∷ []
unfolding named_body spaced decimal figures tally dec_lt ℕ_discrete
methanol = refl

-- 2 10 OC 1 0 18446744073709551617, without its line feed
abbrev long_count : List ℕ
long_count = 50 ∷ 32 ∷ 49 ∷ 48 ∷ 32 ∷ 79 ∷ 67 ∷ 32 ∷ 49 ∷ 32 ∷ 48 ∷ 32 ∷ 49 ∷ 56 ∷ 52 ∷ 52 ∷ 54 ∷ 55 ∷ 52 ∷ 52 ∷ 48 ∷ 55 ∷ 51 ∷ 55 ∷ 48 ∷ 57 ∷ 53 ∷ 53 ∷ 49 ∷ 54 ∷ 49 ∷ 55 ∷ []

abbrev long_parts : Parts
long_parts = record { front = front 2 (1 ∷ 0 ∷ []); letters = 79 ∷ 67 ∷ []; carbons = 1; nitrogens = 0; oxygens = 18446744073709551617 }

-- it has the form
has_form : NamedFormed long_count long_parts
unfolding spaced figures says
has_form =
    record {
      count = 50 ∷ [];
      c = 49 ∷ [];
      n = 48 ∷ [];
      o = 49 ∷ 56 ∷ 52 ∷ 52 ∷ 54 ∷ 55 ∷ 52 ∷ 52 ∷ 48 ∷ 55 ∷ 51 ∷ 55 ∷ 48 ∷ 57 ∷ 53 ∷ 53 ∷ 49 ∷ 54 ∷ 49 ∷ 55 ∷ [];
      counts = one-digit (omega arith) refl;
      some = omega arith;
      digits = (omega arith, (omega arith, tt));
      some_letters = omega arith;
      lettered = ((O, refl), ((C, refl), tt));
      says-c = count-number (one-digit (omega arith) refl);
      says-n = count-number (one-digit (omega arith) refl);
      says_o =
          record {
            digits = 1 ∷ 8 ∷ 4 ∷ 4 ∷ 6 ∷ 7 ∷ 4 ∷ 4 ∷ 0 ∷ 7 ∷ 3 ∷ 7 ∷ 0 ∷ 9 ∷ 5 ∷ 5 ∷ 1 ∷ 6 ∷ 1 ∷ 7 ∷ [];
            leads = omega arith;
            small = (omega arith, (omega arith, (omega arith, (omega arith, (omega arith, (omega arith, (omega arith, (omega arith, (omega arith, (omega arith, (omega arith, (omega arith, (omega arith, (omega arith, (omega arith, (omega arith, (omega arith, (omega arith, (omega arith, (omega arith, tt))))))))))))))))))));
            parts = refl;
            value = refl;
          };
      parts = refl;
    }

-- its counts are not the letters'
no_match : Matches long_parts → ⊥
unfolding tally ℕ_discrete
no_match m = let e : ◌≡◌ {A = ℕ} 1 18446744073709551617 = m.o in omega arith

-- so it is 21: neither 2, nor 1 wrapped round; whatever rows judge digits and letters
long_count-refused : (rows : List (PartRow Named)) (t rest : List ℕ) → Cut 10 t long_count rest → FirstRefusal (line_rows (lines_of_named 64 rows) t) 21 0
long_count-refused rows t rest cut =
    line_refuses (lines_of_named 64 rows) named_once none (record { text = long_count; rest = rest; feed = cut; formed = has_form })
    (refusal_back {xs = judged (through (λ q. q.front) (row3-line 64) ∷ through (λ q. q.front) row5_line ∷ []) long_parts}
    (clear_both {xs = judged (through (λ q. q.front) (row3-line 64) ∷ []) long_parts}
    (clear_one (λ p a. ⊎_elim (λ z. omega (arith, z)) (λ z. omega (arith, z)) a.1)) (clear_one (λ p a. a.1 refl)))
    (refusal_front {xs = judged (row21 ∷ []) long_parts} (judged (map (through carried) rows) long_parts)
    (first-place {r = judging long_parts row21} (refl, no_match) (λ q l a. absurd (omega arith)))))

-- ---- what a caller sees

-- methanol, a line that is refused, and 1 0 C 1 0 0: what 64 bytes for each line hold, which were lent full of 7, in the area of digits and in that of letters
abbrev digit_bytes : List ℕ
digit_bytes = (1 ∷ 0 ∷ replicate 126 7) ++ (0 ∷ replicate 63 7)

abbrev letter_bytes : List ℕ
letter_bytes = (79 ∷ 67 ∷ replicate 126 7) ++ (67 ∷ replicate 63 7)

-- whoever wrote the lines
two-named :
    (Gives : List ℕ → Named → Type 0)
    → handed_out (named_kind Gives) (0 ∷ 21 ∷ 0 ∷ []) (2 ∷ 0 ∷ 1 ∷ []) (digit_bytes ∷ letter_bytes ∷ [])
    ≡ record { digits = 1 ∷ 0 ∷ []; letters = 79 ∷ 67 ∷ [] } ∷ record { digits = 0 ∷ []; letters = 67 ∷ [] } ∷ []
unfolding handed_out
two-named Gives = refl
