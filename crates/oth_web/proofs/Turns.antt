-- The turns of a game, one after the other.
use Rattle.std.proofs.Common.{◌≡◌, ◌+◌, ◌<◌, ◌∙◌, ℕ, List, [], ◌∷◌, ◌++◌, length, take, slice_index_or, sym, ap, arith, append-nil, ap₂, Option}
use Rattle.std.specs.List.{flat_map}
use Rattle.std.proofs.lemmas.List.{take_more}
use Rattle.std.proofs.lemmas.List.Concat.{flat_map-append}
use Rattle.oth_rules.specs.declared.scoring.Scoring.{Scoring}
use Rattle.oth_text.specs.Analysis.{analysis_of, fault_of, fault_part, if_by, loss, lost_by, lost_line, lost_text, told_turns, turn_part}
use Rattle.oth_text.specs.declared.analysis.Turn.{Turn}
use Rattle.oth_text.specs.declared.fault.Fault.{Fault}
use Rattle.oth_text.specs.declared.position.Side.{Side}
use Rattle.oth_text.specs.declared.position.Side.TheVariants.{Black, White}

lost_more : (side : Side) (g : Scoring) (ts : List Turn) (t : Turn) → lost_by side g (ts ++ t ∷ []) ≡ lost_by side g ts + if_by side t.before.mover (loss g t)
lost_more side g [] t = omega arith
lost_more side g (u ∷ ts) t = let rest = lost_more side g ts t in omega arith

-- what a side lost by one turn more
pub lost-next : (side : Side) (g : Scoring) (ts : List Turn) (i : ℕ) (t : Turn) (lost lost' : ℕ) → i < length ts → t ≡ slice_index_or ts i t → lost ≡ lost_by side g (take i ts)
    → lost' ≡ lost + if_by side t.before.mover (loss g t) → lost' ≡ lost_by side g (take (i + 1) ts)
lost-next side g ts i t lost lost' within is so_far more =
    let all : take (i + 1) ts ≡ take i ts ++ t ∷ [] = take_more ts i t within ∙ ap (λ x. take i ts ++ x ∷ []) (sym is) in
    more ∙ ap (λ n. n + if_by side t.before.mover (loss g t)) so_far ∙ sym (ap (lost_by side g) all ∙ lost_more side g (take i ts) t)

-- what is told of one turn more
pub told-next : (n : ℕ) (g : Scoring) (ts : List Turn) (i : ℕ) (t : Turn) → i < length ts → t ≡ slice_index_or ts i t
    → flat_map (turn_part n g) (take (i + 1) ts) ≡ flat_map (turn_part n g) (take i ts) ++ turn_part n g t
told-next n g ts i t within is =
    let all : take (i + 1) ts ≡ take i ts ++ t ∷ [] = take_more ts i t within ∙ ap (λ x. take i ts ++ x ∷ []) (sym is) in
    ap (flat_map (turn_part n g)) all ∙ flat_map-append (turn_part n g) (take i ts) (t ∷ []) ∙ ap (λ l. flat_map (turn_part n g) (take i ts) ++ l) (append-nil (turn_part n g t))

-- the analysis by its parts
pub whole : (n : ℕ) (g : Scoring) (last : ℕ) (line : List ℕ) (ts : List Turn) (fault : Option Fault) (text : List ℕ) (black white : ℕ) → ts ≡ told_turns last line
    → fault ≡ fault_of line → black ≡ lost_by Black g ts → white ≡ lost_by White g ts → text ≡ lost_text n black white
    → flat_map (turn_part n g) ts ++ fault_part n fault ++ text ≡ analysis_of n g last line
unfolding analysis_of
whole n g last line ts fault text black white are same is_black is_white is =
    ap (λ f. flat_map (turn_part n g) ts ++ fault_part n f ++ text) same
    ∙ ap (λ l. flat_map (turn_part n g) ts ++ fault_part n (fault_of line) ++ l) (is ∙ ap₂ (lost_text n) is_black is_white)
    ∙ ap (λ us. flat_map (turn_part n g) us ++ fault_part n (fault_of line) ++ lost_line n g us) are
