-- Examples of face files, one theorem: what the readings of document 02's request E5 say of texts, and a map of two triangles with its rooms.
use Prim.Native.Nat.{ℕ, ◌+◌, ◌*◌}
use mathlib.Core.Path.{◌≡◌, refl}
use mathlib.Core.List.{List, [], ◌∷◌, map}
use Rattle.rules.specs.Lists.{span, range, list_of, all_below, some_below, count_below, scan, first, number, sum}
use Rattle.rules.specs.Map.{by_dart, dim_fits, darts_fit, place, link, blank, pairs, pairs_for, pairs_of, broken, first_broken, all_ranks, all_but}
use Rattle.rules.specs.Map.{spread, within, reaches}
use Rattle.rules.specs.Walk.{start, head_from, tail, link_of, unknown, deduce, partner, pass, join, fresh, is_none, due, one_more, resume, tie, steps, apply}
use Rattle.rules.specs.Walk.{enough, symbol_of, named, write_symbol, write_with, write_at, least_unnumbered}
use Rattle.rules.specs.Walk.{resume_names, resumed, write_step, prepend, write_on}
use Rattle.rules.specs.Walk.{write, walked, symbols_of, names_of}
use Rattle.rules.specs.Bodies as forms
use Rattle.rules.specs.Refusals.{among, of_bodies}
use Rattle.rules.specs.Check.{refuse_if, spot, outside, twisted, unreached, bodies_verdict, tables_verdict, verdict, numbering, work_after}
use Rattle.rules.specs.Exchange.{rank_at, dart_at}
use Rattle.shapes.specs.declared.FacesAnswer.{FacesAnswer}
use Rattle.shapes.specs.Text as text
use Rattle.shapes.specs.Text.{is_blank, commented, gap, word_from, word_end, line_end, next, provided, word, keyword, is_digit, value, several, face, file}
use Rattle.shapes.specs.Faces.{some, corners_to, corners, all_corners, corner_at, alike, large, poor, third, faces_verdict, darts_of, vertex_of, corner_before}
use Rattle.shapes.specs.Faces.{corner_after, twin, link_from, map_on, corners_of, read_verdict, refusal, faces_answer_of, tables_after, faces_answer}
use Rattle.shapes.specs.Faces.{faces_tables, faces_work}

-- a text as bytes, and its answer
pub record Example : Type 0 where
  pub text : List ℕ
  pub answer : FacesAnswer

-- number, place and n
abbrev says : List ℕ → ℕ → ℕ → ℕ → Example
says t nr p n = record { text = t; answer = record { number = nr; place = p; darts = n } }

-- tables of 36 entries and a work room of 24, lent with these numbers in them
unfoldable pub lent : List ℕ
lent = list_of 36 (λ i. 3 * i + 2)

unfoldable pub room : List ℕ
room = list_of 24 (λ i. 7 * i + 1)

pub examples : List Example
examples =
    -- OFF 3 1 0 a b c d e f g h i 3#x\n0 1 2
    says (79 ∷ 70 ∷ 70 ∷ 32 ∷ 51 ∷ 32 ∷ 49 ∷ 32 ∷ 48 ∷ 32 ∷ 97 ∷ 32 ∷ 98 ∷ 32 ∷ 99 ∷ 32 ∷ 100 ∷ 32 ∷ 101 ∷ 32 ∷ 102 ∷ 32 ∷ 103 ∷ 32 ∷ 104 ∷ 32 ∷ 105 ∷ 32 ∷ 51
    ∷ 35 ∷ 120 ∷ 10 ∷ 48 ∷ 32 ∷ 49 ∷ 32 ∷ 50 ∷ []) 0 0 6
    -- OFF 0000000003 1 0
    ∷ says (79 ∷ 70 ∷ 70 ∷ 32 ∷ 48 ∷ 48 ∷ 48 ∷ 48 ∷ 48 ∷ 48 ∷ 48 ∷ 48 ∷ 48 ∷ 51 ∷ 32 ∷ 49 ∷ 32 ∷ 48 ∷ []) 26 4 0
    -- OFF 000000003 1 0\na b c d e f g h i\n3 0 1 +2
    ∷ says (79 ∷ 70 ∷ 70 ∷ 32 ∷ 48 ∷ 48 ∷ 48 ∷ 48 ∷ 48 ∷ 48 ∷ 48 ∷ 48 ∷ 51 ∷ 32 ∷ 49 ∷ 32 ∷ 48 ∷ 10 ∷ 97 ∷ 32 ∷ 98 ∷ 32 ∷ 99 ∷ 32 ∷ 100 ∷ 32 ∷ 101 ∷ 32 ∷ 102
    ∷ 32 ∷ 103 ∷ 32 ∷ 104 ∷ 32 ∷ 105 ∷ 10 ∷ 51 ∷ 32 ∷ 48 ∷ 32 ∷ 49 ∷ 32 ∷ 43 ∷ 50 ∷ []) 26 42 0
    -- OFF 3 1 0\n0 0 0 9\n1 0 0 9\n0 1 0 9\n3 0 1 2
    ∷ says (79 ∷ 70 ∷ 70 ∷ 32 ∷ 51 ∷ 32 ∷ 49 ∷ 32 ∷ 48 ∷ 10 ∷ 48 ∷ 32 ∷ 48 ∷ 32 ∷ 48 ∷ 32 ∷ 57 ∷ 10 ∷ 49 ∷ 32 ∷ 48 ∷ 32 ∷ 48 ∷ 32 ∷ 57 ∷ 10 ∷ 48 ∷ 32 ∷ 49 ∷
    32 ∷ 48 ∷ 32 ∷ 57 ∷ 10 ∷ 51 ∷ 32 ∷ 48 ∷ 32 ∷ 49 ∷ 32 ∷ 50 ∷ []) 28 0 0
    -- OFF 3 2 0 a b c d e f g h i 3 0 1 2 3 0 1 2
    ∷ says (79 ∷ 70 ∷ 70 ∷ 32 ∷ 51 ∷ 32 ∷ 50 ∷ 32 ∷ 48 ∷ 32 ∷ 97 ∷ 32 ∷ 98 ∷ 32 ∷ 99 ∷ 32 ∷ 100 ∷ 32 ∷ 101 ∷ 32 ∷ 102 ∷ 32 ∷ 103 ∷ 32 ∷ 104 ∷ 32 ∷ 105 ∷ 32 ∷
    51 ∷ 32 ∷ 48 ∷ 32 ∷ 49 ∷ 32 ∷ 50 ∷ 32 ∷ 51 ∷ 32 ∷ 48 ∷ 32 ∷ 49 ∷ 32 ∷ 50 ∷ []) 26 43 0
    -- OFF 3 2 0 a b c d e f g h i 0 junk\n3 0 1 2
    ∷ says (79 ∷ 70 ∷ 70 ∷ 32 ∷ 51 ∷ 32 ∷ 50 ∷ 32 ∷ 48 ∷ 32 ∷ 97 ∷ 32 ∷ 98 ∷ 32 ∷ 99 ∷ 32 ∷ 100 ∷ 32 ∷ 101 ∷ 32 ∷ 102 ∷ 32 ∷ 103 ∷ 32 ∷ 104 ∷ 32 ∷ 105 ∷ 32 ∷
    48 ∷ 32 ∷ 106 ∷ 117 ∷ 110 ∷ 107 ∷ 10 ∷ 51 ∷ 32 ∷ 48 ∷ 32 ∷ 49 ∷ 32 ∷ 50 ∷ []) 28 0 0
    -- OFF 3 2 0 a b c d e f g h i 2 0 1\n3 0 1 9
    ∷ says (79 ∷ 70 ∷ 70 ∷ 32 ∷ 51 ∷ 32 ∷ 50 ∷ 32 ∷ 48 ∷ 32 ∷ 97 ∷ 32 ∷ 98 ∷ 32 ∷ 99 ∷ 32 ∷ 100 ∷ 32 ∷ 101 ∷ 32 ∷ 102 ∷ 32 ∷ 103 ∷ 32 ∷ 104 ∷ 32 ∷ 105 ∷ 32 ∷
    50 ∷ 32 ∷ 48 ∷ 32 ∷ 49 ∷ 10 ∷ 51 ∷ 32 ∷ 48 ∷ 32 ∷ 49 ∷ 32 ∷ 57 ∷ []) 28 0 0
    -- OFF 3 2 0 a b c d e f g h i 3 0 1 9\n3 0 1 x
    ∷ says (79 ∷ 70 ∷ 70 ∷ 32 ∷ 51 ∷ 32 ∷ 50 ∷ 32 ∷ 48 ∷ 32 ∷ 97 ∷ 32 ∷ 98 ∷ 32 ∷ 99 ∷ 32 ∷ 100 ∷ 32 ∷ 101 ∷ 32 ∷ 102 ∷ 32 ∷ 103 ∷ 32 ∷ 104 ∷ 32 ∷ 105 ∷ 32 ∷
    51 ∷ 32 ∷ 48 ∷ 32 ∷ 49 ∷ 32 ∷ 57 ∷ 10 ∷ 51 ∷ 32 ∷ 48 ∷ 32 ∷ 49 ∷ 32 ∷ 120 ∷ []) 26 42 0
    -- OFF 1 0 0 a b
    ∷ says (79 ∷ 70 ∷ 70 ∷ 32 ∷ 49 ∷ 32 ∷ 48 ∷ 32 ∷ 48 ∷ 32 ∷ 97 ∷ 32 ∷ 98 ∷ []) 26 13 0
    -- OFF 0 0 0
    ∷ says (79 ∷ 70 ∷ 70 ∷ 32 ∷ 48 ∷ 32 ∷ 48 ∷ 32 ∷ 48 ∷ []) 2 0 0
    -- off 0 0 0
    ∷ says (111 ∷ 102 ∷ 102 ∷ 32 ∷ 48 ∷ 32 ∷ 48 ∷ 32 ∷ 48 ∷ []) 26 0 0
    -- OFF 3 3 0 a b c d e f g h i\n3 0 1 2\n3 2 1 0\n3 0 1 2
    ∷ says (79 ∷ 70 ∷ 70 ∷ 32 ∷ 51 ∷ 32 ∷ 51 ∷ 32 ∷ 48 ∷ 32 ∷ 97 ∷ 32 ∷ 98 ∷ 32 ∷ 99 ∷ 32 ∷ 100 ∷ 32 ∷ 101 ∷ 32 ∷ 102 ∷ 32 ∷ 103 ∷ 32 ∷ 104 ∷ 32 ∷ 105 ∷ 10 ∷
    51 ∷ 32 ∷ 48 ∷ 32 ∷ 49 ∷ 32 ∷ 50 ∷ 10 ∷ 51 ∷ 32 ∷ 50 ∷ 32 ∷ 49 ∷ 32 ∷ 48 ∷ 10 ∷ 51 ∷ 32 ∷ 48 ∷ 32 ∷ 49 ∷ 32 ∷ 50 ∷ []) 29 2 0
    -- OFF 3 1 0 a b c d e f g h i\n3 0 1 3
    ∷ says (79 ∷ 70 ∷ 70 ∷ 32 ∷ 51 ∷ 32 ∷ 49 ∷ 32 ∷ 48 ∷ 32 ∷ 97 ∷ 32 ∷ 98 ∷ 32 ∷ 99 ∷ 32 ∷ 100 ∷ 32 ∷ 101 ∷ 32 ∷ 102 ∷ 32 ∷ 103 ∷ 32 ∷ 104 ∷ 32 ∷ 105 ∷ 10 ∷
    51 ∷ 32 ∷ 48 ∷ 32 ∷ 49 ∷ 32 ∷ 51 ∷ []) 27 0 0
    -- OFF 3 1 0 a b c d e f g h i\n4 0 1 2 1
    ∷ says (79 ∷ 70 ∷ 70 ∷ 32 ∷ 51 ∷ 32 ∷ 49 ∷ 32 ∷ 48 ∷ 32 ∷ 97 ∷ 32 ∷ 98 ∷ 32 ∷ 99 ∷ 32 ∷ 100 ∷ 32 ∷ 101 ∷ 32 ∷ 102 ∷ 32 ∷ 103 ∷ 32 ∷ 104 ∷ 32 ∷ 105 ∷ 10 ∷
    52 ∷ 32 ∷ 48 ∷ 32 ∷ 49 ∷ 32 ∷ 50 ∷ 32 ∷ 49 ∷ []) 0 0 8
    ∷ []

pub examples_right : map (λ (x : Example). faces_answer by_dart x.text lent room) examples ≡ map (λ (x : Example). x.answer) examples
unfolding examples lent room span range list_of all_below some_below count_below scan first number sum dim_fits darts_fit place link blank pairs pairs_for
    pairs_of
    broken first_broken all_ranks all_but spread within reaches start head_from tail link_of unknown deduce partner pass join fresh is_none due one_more
    resume tie
    steps apply enough symbol_of named write_symbol write_with write_at least_unnumbered resume_names resumed write_step prepend write_on write walked
    symbols_of
    names_of refuse_if spot outside twisted unreached bodies_verdict tables_verdict verdict numbering work_after among of_bodies is_blank commented gap
    word_from
    word_end line_end next provided word keyword is_digit value text.number several forms.several face file some corners_to corners all_corners corner_at alike
    large poor third faces_verdict darts_of vertex_of corner_before corner_after twin link_from rank_at dart_at map_on corners_of read_verdict refusal
    faces_answer_of
    tables_after faces_answer faces_tables faces_work
examples_right = refl

-- two triangles with a side in common: OFF 4 2 0 a b c d e f g h i j k l\n3 0 1 2\n3 1 2 3
unfoldable pub two : List ℕ
two =
    79 ∷ 70 ∷ 70 ∷ 32 ∷ 52 ∷ 32 ∷ 50 ∷ 32 ∷ 48 ∷ 32 ∷ 97 ∷ 32 ∷ 98 ∷ 32 ∷ 99 ∷ 32 ∷ 100 ∷ 32 ∷ 101 ∷ 32 ∷ 102 ∷ 32 ∷ 103 ∷ 32 ∷ 104 ∷ 32 ∷ 105 ∷ 32 ∷ 106 ∷ 32
    ∷ 107 ∷ 32 ∷ 108 ∷ 10 ∷ 51 ∷ 32 ∷ 48 ∷ 32 ∷ 49 ∷ 32 ∷ 50 ∷ 10 ∷ 51 ∷ 32 ∷ 49 ∷ 32 ∷ 50 ∷ 32 ∷ 51 ∷ []

pub two_rooms : (faces_tables by_dart two lent room
    ≡ 1 ∷ 5 ∷ 0 ∷ 0 ∷ 2 ∷ 1 ∷ 3 ∷ 1 ∷ 6 ∷ 2 ∷ 4 ∷ 7 ∷ 5 ∷ 3 ∷ 4 ∷ 4 ∷ 0 ∷ 5 ∷ 7 ∷ 11 ∷ 2 ∷ 6 ∷ 8 ∷ 3 ∷ 9 ∷ 7 ∷ 8 ∷ 8 ∷ 10 ∷ 9 ∷ 11 ∷ 9 ∷ 10 ∷ 10 ∷ 6 ∷ 11 ∷ [])
    × (faces_work by_dart two lent room
    ≡ 0 ∷ 1 ∷ 4 ∷ 5 ∷ 3 ∷ 2 ∷ 6 ∷ 7 ∷ 10 ∷ 11 ∷ 9 ∷ 8 ∷ 0 ∷ 1 ∷ 5 ∷ 4 ∷ 2 ∷ 3 ∷ 6 ∷ 7 ∷ 11 ∷ 10 ∷ 8 ∷ 9 ∷ [])
unfolding two lent room span range list_of all_below some_below count_below scan first number sum dim_fits darts_fit place link blank pairs pairs_for
    pairs_of broken
    first_broken all_ranks all_but spread within reaches start head_from tail link_of unknown deduce partner pass join fresh is_none due one_more resume
    tie steps
    apply enough symbol_of named write_symbol write_with write_at least_unnumbered resume_names resumed write_step prepend write_on write walked symbols_of
    names_of
    refuse_if spot outside twisted unreached bodies_verdict tables_verdict verdict numbering work_after among of_bodies is_blank commented gap word_from
    word_end
    line_end next provided word keyword is_digit value text.number several forms.several face file some corners_to corners all_corners corner_at alike
    large poor
    third faces_verdict darts_of vertex_of corner_before corner_after twin link_from rank_at dart_at map_on corners_of read_verdict refusal faces_answer_of
    tables_after
    faces_answer faces_tables faces_work
two_rooms = (refl, refl)
