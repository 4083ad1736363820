-- The analysis of a game, line by line.
use Rattle.std.proofs.Common.{◌≡◌, ◌+◌, ◌<◌, ◌∙◌, ℕ, List, [], ◌∷◌, ◌++◌, Option, length, take, drop, slice_index_or, sym, ap, ap₂, subst, arith, append_assoc, append-nil}
use Rattle.std.specs.List.{flat_map}
use Rattle.std.proofs.lemmas.List.{take-append-drop, take_more}
use Rattle.std.proofs.lemmas.List.Concat.{flat_map-append}
use Rattle.oth_rules.specs.declared.scoring.Scoring.{Scoring}
use Rattle.oth_text.specs.Analysis.{analysis_of, fault_of, fault_part, if_by, loss, lost_by, lost_line, lost_text, told_turns, turn_line, turn_part}
use Rattle.oth_device.specs.Device.{AppendsBeginning}
use Rattle.oth_text.specs.declared.analysis.Turn.{Turn}
use Rattle.oth_text.specs.declared.fault.Fault.{Fault}
use Rattle.oth_text.specs.declared.position.Side.{Side}
use Rattle.oth_text.specs.declared.position.Side.TheVariants.{Black, White}
use Rattle.oth_run.specs.Gathered.{IsGathered}
use Rattle.oth_run.proofs.GatherLemmas.{beginning_within}

-- ---- one turn more

lost_more : (side : Side) (g : Scoring) (ts : List Turn) (t : Turn) → lost_by side g (ts ++ t ∷ []) ≡ lost_by side g ts + if_by side t.before.mover (loss g t)
lost_more side g [] t = omega arith
lost_more side g (u ∷ ts) t = let rest = lost_more side g ts t in omega arith

pub lost-next : (side : Side) (g : Scoring) (ts : List Turn) (i : ℕ) (t : Turn) (lost lost' : ℕ) → i < length ts → t ≡ slice_index_or ts i t → lost ≡ lost_by side g (take i ts)
    → lost' ≡ lost + if_by side t.before.mover (loss g t) → lost' ≡ lost_by side g (take (i + 1) ts)
lost-next side g ts i t lost lost' within is so_far more =
    let all : take (i + 1) ts ≡ take i ts ++ t ∷ [] = take_more ts i t within ∙ ap (λ x. take i ts ++ x ∷ []) (sym is) in
    more ∙ ap (λ n. n + if_by side t.before.mover (loss g t)) so_far ∙ sym (ap (lost_by side g) all ∙ lost_more side g (take i ts) t)

pub told-next : (n : ℕ) (g : Scoring) (ts : List Turn) (i : ℕ) (t : Turn) → i < length ts → t ≡ slice_index_or ts i t
    → flat_map (turn_part n g) (take (i + 1) ts) ≡ flat_map (turn_part n g) (take i ts) ++ turn_part n g t
told-next n g ts i t within is =
    let all : take (i + 1) ts ≡ take i ts ++ t ∷ [] = take_more ts i t within ∙ ap (λ x. take i ts ++ x ∷ []) (sym is) in
    ap (flat_map (turn_part n g)) all ∙ flat_map-append (turn_part n g) (take i ts) (t ∷ []) ∙ ap (λ l. flat_map (turn_part n g) (take i ts) ++ l) (append-nil (turn_part n g t))

module _ (before sink : Option (List ℕ)) (n : ℕ) (g : Scoring) (ts : List Turn) (i : ℕ) (t : Turn) (within : i < length ts) (is : t ≡ slice_index_or ts i t)
    (done text : List ℕ) (line : text ≡ turn_line n g t) where
  abbrev told : List Turn → List ℕ
  told us = flat_map (turn_part n g) us

  -- its line is gathered
  pub gathered-next : (waiting : List ℕ) → IsGathered before sink waiting ((done ++ told (take i ts)) ++ (text ++ 10 ∷ [])) → IsGathered before sink waiting (done ++ told (take (i + 1) ts))
  gathered-next waiting gathered =
      let same : (done ++ told (take i ts)) ++ (text ++ 10 ∷ []) ≡ done ++ told (take (i + 1) ts) =
      append_assoc done (told (take i ts)) (text ++ 10 ∷ []) ∙ ap (λ l. done ++ (told (take i ts) ++ (l ++ 10 ∷ []))) line ∙ ap (λ l. done ++ l) (sym (told-next n g ts i t within is)) in
      subst (IsGathered before sink waiting) same gathered

  -- it is written in part
  pub stopped-next : AppendsBeginning before sink ((done ++ told (take i ts)) ++ (text ++ 10 ∷ [])) → AppendsBeginning before sink (done ++ told ts)
  stopped-next part =
      let rest = told (drop (i + 1) ts) in
      let all : told ts ≡ (told (take i ts) ++ (text ++ 10 ∷ [])) ++ rest =
      ap told (sym (take-append-drop (i + 1) ts)) ∙ flat_map-append (turn_part n g) (take (i + 1) ts) (drop (i + 1) ts)
      ∙ ap (λ l. l ++ rest) (told-next n g ts i t within is ∙ ap (λ l. told (take i ts) ++ (l ++ 10 ∷ [])) (sym line)) in
      beginning_within before sink _ _ part (
        rest,
        ap (λ l. done ++ l) all ∙ sym (append_assoc done (told (take i ts) ++ (text ++ 10 ∷ [])) rest) ∙ ap (λ l. l ++ rest) (sym (append_assoc done (told (take i ts)) (text ++ 10 ∷ []))),
      )

-- ---- the parts of the analysis

pub whole : (n : ℕ) (g : Scoring) (last : ℕ) (line : List ℕ) (ts : List Turn) (fault : Option Fault) (text : List ℕ) (black white : ℕ) → ts ≡ told_turns last line
    → fault ≡ fault_of line → black ≡ lost_by Black g ts → white ≡ lost_by White g ts → text ≡ lost_text n black white
    → flat_map (turn_part n g) ts ++ fault_part n fault ++ text ≡ analysis_of n g last line
unfolding analysis_of
whole n g last line ts fault text black white are same is_black is_white is =
    ap (λ f. flat_map (turn_part n g) ts ++ fault_part n f ++ text) same
    ∙ ap (λ l. flat_map (turn_part n g) ts ++ fault_part n (fault_of line) ++ l) (is ∙ ap₂ (lost_text n) is_black is_white)
    ∙ ap (λ us. flat_map (turn_part n g) us ++ fault_part n (fault_of line) ++ lost_line n g us) are

three : (done first second third : List ℕ) → ((done ++ first) ++ second) ++ third ≡ done ++ ((first ++ second) ++ third)
three done first second third =
    ap (λ l. l ++ third) (append_assoc done first second) ∙ append_assoc done (first ++ second) third

-- what was gathered of the parts
pub joined-parts : (before sink : Option (List ℕ)) (waiting done first second third all : List ℕ) → first ++ second ++ third ≡ all
    → IsGathered before sink waiting (((done ++ first) ++ second) ++ third) → IsGathered before sink waiting (done ++ all)
joined-parts before sink waiting done first second third all is gathered =
    subst (IsGathered before sink waiting) (three done first second third ∙ ap (λ l. done ++ l) is) gathered

pub stopped-first : (before sink : Option (List ℕ)) (done first second third all : List ℕ) → first ++ second ++ third ≡ all
    → AppendsBeginning before sink (done ++ first) → AppendsBeginning before sink (done ++ all)
stopped-first before sink done first second third all is part =
    beginning_within before sink _ _ part (second ++ third, ap (λ l. done ++ l) (sym is ∙ append_assoc first second third) ∙ sym (append_assoc done first (second ++ third)))

pub stopped-second : (before sink : Option (List ℕ)) (done first second third all : List ℕ) → first ++ second ++ third ≡ all
    → AppendsBeginning before sink ((done ++ first) ++ second) → AppendsBeginning before sink (done ++ all)
stopped-second before sink done first second third all is part =
    beginning_within before sink _ _ part (third, sym (three done first second third ∙ ap (λ l. done ++ l) is))
