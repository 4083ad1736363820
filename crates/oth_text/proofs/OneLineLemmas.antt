-- The lines that are printed carry no byte 10.
use Rattle.std.proofs.Common.{◌≡◌, ◌≢◌, ◌+◌, ◌%◌, ◌/◌, ◌^◌, ◌<◌, ◌==◌, ℕ, suc, ℤ, pos, negsuc, List, [], ◌∷◌, ◌++◌, Bool, true, false, not, refl, sym, ◌∙◌, arith, subst, decimal, if◌then◌else◌}
use Rattle.std.specs.Prelude.{map, codes, Option, Some, None}
use Rattle.std.specs.List.{AllByRecursion, list_all}
use Rattle.std.proofs.lemmas.Bool.{eq-eqb}
use Rattle.std.proofs.lemmas.List.Elements.{All-append, All-cons, All-map}
use Rattle.std.proofs.lemmas.Int.{ints}
use Rattle.std.proofs.lemmas.Fmt.{decimal_by_steps}
use Rattle.oth_rules.specs.Square.{squares}
use Rattle.oth_rules.specs.Position.{Position as Discs, Cell, Mine, Theirs, Empty, cell}
use Rattle.oth_rules.specs.Move.{after, can_move, legal_squares}
use Rattle.oth_rules.specs.Laws.{IsScore}
use Rattle.oth_rules.specs.Score.{score_of}
use Rattle.oth_rules.specs.Value.{value}
use Rattle.oth_rules.specs.declared.scoring.Scoring.{Scoring}
use Rattle.oth_rules.proofs.SearchLaws.{IsScore-value}
use Rattle.oth_search.specs.Bounds.Answer.{kind_of}
use Rattle.oth_search.specs.declared.bounds.kind.Kind.{Kind}
use Rattle.oth_search.specs.declared.bounds.kind.Kind.TheVariants.{Move, Pass, End}
use Rattle.oth_text.specs.declared.position.Side.{Side}
use Rattle.oth_text.specs.declared.position.Side.TheVariants.{Black, White}
use Rattle.oth_text.specs.declared.position.Position.{Position}
use Rattle.oth_text.specs.BoardLine.{board_line, cell_byte, side_byte}
use Rattle.oth_search.specs.declared.root.scores.ScoredMove.{ScoredMove}
use Rattle.oth_text.proofs.RankingLemmas.{each_ranked}
use Rattle.oth_text.specs.Analysis.{disc_number, lost_text, name_played, score_of_turn, turn_line}
use Rattle.oth_text.specs.declared.analysis.Turn.{Turn}
use Rattle.oth_text.proofs.AnalysisLemmas.{turn_score-range}
use Rattle.oth_text.specs.OneLine.{IsOneLine}
use Rattle.oth_text.specs.Ranking.{best_first, scored_move, scored_moves, scored_name, scored_names, scores_line_of}
use Rattle.oth_text.specs.Report.{best_squares, moves_line_of, moves_or_word, names, report_line_of, score_text, square_name}

cons : (b : ℕ) (bs : List ℕ) → b ≢ 10 → IsOneLine bs → IsOneLine (b ∷ bs)
cons b bs h rest = All-cons (λ b. b ≢ 10) b bs h rest

pub IsOneLine-append : (xs ys : List ℕ) → IsOneLine xs → IsOneLine ys → IsOneLine (xs ++ ys)
IsOneLine-append xs ys h rest = All-append (λ b. b ≢ 10) xs ys h rest

none : IsOneLine []
none = λ k d l. absurd (omega arith)

-- a literal
by_test : (bs : List ℕ) → list_all (λ b. not (b == 10)) bs ≡ true → IsOneLine bs
by_test [] h = none
by_test (b ∷ bs) h = go (b == 10) refl h (λ rest. by_test bs rest)
  where
    go : (t : Bool) → (b == 10) ≡ t → list_all (λ b. not (b == 10)) (b ∷ bs) ≡ true → (list_all (λ b. not (b == 10)) bs ≡ true → IsOneLine bs) → IsOneLine (b ∷ bs)
    go true e h others = absurd (let bad : false ≡ true = rw e at h in cc)
    go false e h others = cons b bs (λ same. absurd (let bad : true ≡ false = sym (eq-eqb b 10 same) ∙ e in cc)) (others (rw e at h))

pub IsOneLine-decimal : (n : ℕ) → n < 2 ^ 64 → IsOneLine (decimal n)
IsOneLine-decimal n fits = decimal_by_steps (λ n ds. IsOneLine ds)
    (λ n small. cons (48 + n) [] (omega arith) none)
    (λ n ds large rest. IsOneLine-append ds ((48 + n % 10) ∷ []) rest (cons (48 + n % 10) [] (omega arith) none))
    n fits

-- ---- boards

cell_is : (m : Side) (c : Cell) → cell_byte m c ≢ 10
cell_is Black Mine = λ e. absurd (omega arith)
cell_is Black Theirs = λ e. absurd (omega arith)
cell_is Black Empty = λ e. absurd (omega arith)
cell_is White Mine = λ e. absurd (omega arith)
cell_is White Theirs = λ e. absurd (omega arith)
cell_is White Empty = λ e. absurd (omega arith)

side_is : (m : Side) → side_byte m ≢ 10
side_is Black = λ e. absurd (omega arith)
side_is White = λ e. absurd (omega arith)

pub board_line-one : (line : List ℕ) (p : Position) → line ≡ board_line p → IsOneLine line
unfolding board_line
board_line-one line p is = subst IsOneLine (sym is)
    (IsOneLine-append (map (λ s. cell_byte p.mover (cell p.board s)) squares) (32 ∷ side_byte p.mover ∷ [])
    (All-map (λ b. b ≢ 10) (λ s. cell_byte p.mover (cell p.board s)) squares (λ k d l. cell_is p.mover (cell p.board _)))
    (cons 32 (side_byte p.mover ∷ []) (omega arith) (cons (side_byte p.mover) [] (side_is p.mover) none)))

-- ---- moves and reports

name : (s : ℕ) → IsOneLine (square_name s)
name s = cons (97 + s % 8) ((49 + s / 8) ∷ []) (omega arith) (cons (49 + s / 8) [] (omega arith) none)

names-one : (line : List ℕ) → IsOneLine (names line)
names-one [] = none
names-one (s ∷ []) = name s
names-one (s ∷ t ∷ line) = IsOneLine-append (square_name s) (32 ∷ names (t ∷ line)) (name s) (cons 32 (names (t ∷ line)) (omega arith) (names-one (t ∷ line)))

moves-one : (k : Kind) (moves : List ℕ) → IsOneLine (moves_or_word k moves)
moves-one Move moves = names-one moves
moves-one Pass moves = by_test (moves_or_word Pass moves) refl
moves-one End moves = by_test (moves_or_word End moves) refl

pub moves_line-one : (line : List ℕ) (b : Discs) → line ≡ moves_line_of b → IsOneLine line
unfolding moves_line_of
moves_line-one line b is = subst IsOneLine (sym is) (moves-one (kind_of b) (legal_squares b))

score-one : (z : ℤ) → IsScore z → IsOneLine (score_text z)
score-one (pos n) h = cons 43 (decimal n) (omega arith) (IsOneLine-decimal n (let high = h.high in omega (arith, ints)))
score-one (negsuc n) h = cons 45 (decimal (suc n)) (omega arith) (IsOneLine-decimal (suc n) (let low = h.low in omega (arith, ints)))

pub report_line-one : (line : List ℕ) (g : Scoring) (b : Discs) → line ≡ report_line_of g b → IsOneLine line
unfolding report_line_of
report_line-one line g b is = subst IsOneLine (sym is)
    (IsOneLine-append (score_text (value (score_of g) b)) (32 ∷ moves_or_word (kind_of b) (best_squares g b)) (score-one (value (score_of g) b) (IsScore-value g b))
    (cons 32 (moves_or_word (kind_of b) (best_squares g b)) (omega arith) (moves-one (kind_of b) (best_squares g b))))

-- ---- moves with scores

abbrev HaveScores : List ScoredMove → Type 0
HaveScores ms = AllByRecursion (λ m. IsScore m.score) ms

each_scored : (g : Scoring) (b : Discs) (moves : List ℕ) → HaveScores (map (scored_move g b) moves)
each_scored g b [] = tt
each_scored g b (s ∷ moves) =
    let v = IsScore-value g (after b s) in
    let low = v.low in
    let high = v.high in
    (record { low = omega (arith, ints); high = omega (arith, ints) }, each_scored g b moves)

scored-one : (m : ScoredMove) → IsScore m.score → IsOneLine (scored_name m)
scored-one m is = IsOneLine-append (score_text m.score) (32 ∷ square_name m.square) (score-one m.score is) (cons 32 (square_name m.square) (omega arith) (name m.square))

scored_names-one : (ms : List ScoredMove) → HaveScores ms → IsOneLine (scored_names ms)
scored_names-one [] each = none
scored_names-one (m ∷ []) each = scored-one m each.0
scored_names-one (m ∷ n ∷ ms) each =
    IsOneLine-append (scored_name m) (32 ∷ scored_names (n ∷ ms)) (scored-one m each.0) (cons 32 (scored_names (n ∷ ms)) (omega arith) (scored_names-one (n ∷ ms) each.1))

pub scores_line-one : (line : List ℕ) (g : Scoring) (b : Discs) → line ≡ scores_line_of g b → IsOneLine line
unfolding scores_line_of scored_moves
scores_line-one line g b is = subst IsOneLine (sym is) (go (can_move b))
  where
    go : (can : Bool) → IsOneLine (if can then scored_names (best_first (scored_moves g b)) else report_line_of g b)
    go true = scored_names-one (best_first (scored_moves g b)) (each_ranked (λ m. IsScore m.score) [] (scored_moves g b) tt (each_scored g b (legal_squares b)))
    go false = report_line-one (report_line_of g b) g b refl

-- ---- turns

played-one : (played : Option ℕ) → IsOneLine (name_played played)
played-one (Some s) = name s
played-one None = by_test (name_played None) refl

pub turn_line-one : (line : List ℕ) (n : ℕ) (g : Scoring) (t : Turn) → n < 2 ^ 64 → line ≡ turn_line n g t → IsOneLine line
unfolding turn_line
turn_line-one line n g t fits is =
    let disc : List ℕ = decimal n ++ 32 ∷ decimal (disc_number t) in
    let side : List ℕ = 32 ∷ side_byte t.before.mover ∷ 32 ∷ name_played t.played in
    let score : List ℕ = 32 ∷ score_text (score_of_turn g t) in
    let best : List ℕ = 32 ∷ report_line_of g t.before.board in
    let is_disc : IsOneLine disc =
    IsOneLine-append (decimal n) (32 ∷ decimal (disc_number t)) (IsOneLine-decimal n fits) (cons 32 (decimal (disc_number t)) (omega arith) (IsOneLine-decimal (disc_number t) (omega arith))) in
    let is_side : IsOneLine side = cons 32 (side_byte t.before.mover ∷ 32 ∷ name_played t.played) (omega arith)
    (cons (side_byte t.before.mover) (32 ∷ name_played t.played) (side_is t.before.mover) (cons 32 (name_played t.played) (omega arith) (played-one t.played))) in
    let is_score : IsOneLine score = cons 32 (score_text (score_of_turn g t)) (omega arith) (score-one (score_of_turn g t) (turn_score-range g t)) in
    let is_best : IsOneLine best = cons 32 (report_line_of g t.before.board) (omega arith) (report_line-one (report_line_of g t.before.board) g t.before.board refl) in
    subst IsOneLine (sym is) (IsOneLine-append (disc ++ side ++ score) best (IsOneLine-append (disc ++ side) score (IsOneLine-append disc side is_disc is_side) is_score) is_best)

pub lost_text-one : (line : List ℕ) (n black white : ℕ) → n < 2 ^ 64 → black < 2 ^ 64 → white < 2 ^ 64 → line ≡ lost_text n black white → IsOneLine line
lost_text-one line n black white fits few fewer is =
    let first : IsOneLine (decimal n ++ codes " lost X ") = IsOneLine-append (decimal n) (codes " lost X ") (IsOneLine-decimal n fits) (by_test (codes " lost X ") refl) in
    let second = IsOneLine-append (decimal n ++ codes " lost X ") (decimal black) first (IsOneLine-decimal black few) in
    let third = IsOneLine-append (decimal n ++ codes " lost X " ++ decimal black) (codes " O ") second (by_test (codes " O ") refl) in
    subst IsOneLine (sym is) (IsOneLine-append (decimal n ++ codes " lost X " ++ decimal black ++ codes " O ") (decimal white) third (IsOneLine-decimal white fewer))

pub game_line-one : (line : List ℕ) (n : ℕ) (text : List ℕ) → n < 2 ^ 64 → IsOneLine text → line ≡ decimal n ++ 32 ∷ text → IsOneLine line
game_line-one line n text fits one is = subst IsOneLine (sym is) (IsOneLine-append (decimal n) (32 ∷ text) (IsOneLine-decimal n fits) (cons 32 text (omega arith) one))
