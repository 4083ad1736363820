-- What a look found is true, under the scoring of the table.
use Rattle.std.proofs.Common.{◌≡◌, ℕ, ◌&&◌, List, subst}
use Rattle.std.specs.Prelude.{Option, Some, None, IfSome, if◌then◌else◌, ◌==◌}
use Rattle.std.specs.Option.{option_or}
use Rattle.oth_rules.specs.declared.scoring.Scoring.{Scoring}
use Rattle.oth_rules.specs.Position.{Position}
use Rattle.oth_search.specs.Bounds.Entry.{Bounded}
use Rattle.oth_search.proofs.BoundsLemmas.Entries.{same_board_words}
use Rattle.oth_table.specs.declared.history.Terms.{Terms}
use Rattle.oth_table.specs.declared.history.Event.{Event}
use Rattle.oth_table.specs.declared.table.Look.{Look}
use Rattle.oth_table.specs.declared.table.Look.TheVariants.{Empty, Whole, Busy}
use Rattle.oth_history.specs.History.{Name}
use Rattle.oth_table.specs.declared.table.Put.{Put}
use Rattle.oth_table.specs.SharedTable.{Looks, Puts, IsFoundBy}
use Rattle.oth_table.specs.Choices.{entry_in}
use Rattle.oth_table.specs.Parts.{Use, Fixed, fixed_of}
use Rattle.oth_table.specs.Pairs.{LooksAt, PutsAt}
use Rattle.oth_table.proofs.Histories.{found_true, tested}

pub found_by : (terms : Terms) (s : Name) (earlier later : List Event) (c : ℕ) (found : Look) → Looks terms s earlier later c found → IsFoundBy terms.scoring found
found_by terms s earlier later c Empty l = tt
found_by terms s earlier later c (Whole x) l = (found_true terms s earlier later c x l).scoring
found_by terms s earlier later c Busy l = tt

-- a look of the same seat, whatever it has seen before
pub looks_at : (u v : Use) (c d : ℕ) (earlier later : List Event) (found : Look) → fixed_of v ≡ fixed_of u → c ≡ d → LooksAt v c earlier later found → LooksAt u d earlier later found
looks_at u v c d earlier later found fixed same l = subst (λ (z : Fixed × ℕ). Looks z.0.terms z.0.name earlier later z.1 found) (λ i. (fixed i, same i)) l

pub puts_at : (u v : Use) (c d : ℕ) (earlier later : List Event) (given : Bounded) (did : Put) → fixed_of v ≡ fixed_of u → c ≡ d → PutsAt v c earlier later given did
    → PutsAt u d earlier later given did
puts_at u v c d earlier later given did fixed same p = subst (λ (z : Fixed × ℕ). Puts z.0.terms z.0.name earlier later z.1 given did) (λ i. (fixed i, same i)) p

-- the answer of a look for p under the scoring g
abbrev pub IsAsked : Scoring → Position → Option Bounded → Type 0
IsAsked g p answer = IfSome answer (λ e. (e.board ≡ p) × (e.scoring ≡ g))

asked_in : (g : Scoring) (p : Position) (found : Look) → IsFoundBy g found → IsAsked g p (entry_in found p)
asked_in g p Empty by = tt
asked_in g p (Whole x) by =
    tested x.board.own p.own (λ b. IsAsked g p (if b && (x.board.opp == p.opp) then Some x else None))
    (λ own. tested x.board.opp p.opp (λ b. IsAsked g p (if b then Some x else None)) (λ opp. (same_board_words x.board p own opp, by)) (λ _. tt))
    (λ _. tt)
asked_in g p Busy by = tt

either_asked : (g : Scoring) (p : Position) (x y : Option Bounded) → IsAsked g p x → IsAsked g p y → IsAsked g p (option_or x y)
either_asked g p None y a b = b
either_asked g p (Some x) y a b = a

pub asked : (g : Scoring) (p : Position) (first other : Look) → IsFoundBy g first → IsFoundBy g other → IsAsked g p (option_or (entry_in first p) (entry_in other p))
asked g p first other a b = either_asked g p (entry_in first p) (entry_in other p) (asked_in g p first a) (asked_in g p other b)
