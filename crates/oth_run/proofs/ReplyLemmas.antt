-- What is replied to a line, by what it was read as.
use Rattle.std.proofs.Common.{◌≡◌, ◌≢◌, inl, inr, ◌∙◌, ℕ, List, Option, Some, Result, Ok, Err, MatchOption, refl, ap, sym, subst}
use Rattle.oth_rules.specs.Position.{Position as Discs}
use Rattle.oth_text.specs.Analysis.{analysis_of, fault_of, game_fault_of, transcript_fault_of}
use Rattle.oth_text.specs.BoardLine.{board_line, reading, solvable_reading}
use Rattle.oth_text.specs.FaultLine.{any_fault_line_of}
use Rattle.oth_text.specs.Game.{game_reading}
use Rattle.oth_text.specs.Ranking.{scores_line_of}
use Rattle.oth_text.specs.Reply.{board_reply, play_reply, transcript_reply}
use Rattle.oth_text.specs.Report.{moves_line_of, report_line_of}
use Rattle.oth_text.specs.Transcript.{transcript_reading}
use Rattle.oth_text.specs.declared.fault.Fault.{Fault}
use Rattle.oth_text.specs.declared.fault.GameFault.{GameFault}
use Rattle.oth_text.specs.declared.fault.LineFault.{LineFault}
use Rattle.oth_text.specs.declared.fault.TranscriptFault.{TranscriptFault}
use Rattle.oth_text.specs.declared.position.Position.{Position}
use Rattle.oth_words.specs.declared.settings.Command.{Command}
use Rattle.oth_words.specs.declared.settings.Command.TheVariants.{Solve, Scores, Moves, Transcript, Play, Analyse}
use Rattle.oth_words.specs.declared.settings.Settings.{Settings}
use Rattle.oth_run.specs.Faulty.{board_fault_of, first_fault}
use Rattle.oth_run.specs.Line.{Reaches}
use Rattle.oth_run.specs.Reply.{reply, reply_to}

-- by the command that asks for it
replied : (settings : Settings) (command : Command) (number : ℕ) (line : List ℕ) → settings.command ≡ command
    → reply_to command settings.scoring number line ≡ reply settings number line
replied settings command number line is = sym (ap (λ (c : Command). reply_to c settings.scoring number line) is)

-- ---- of a line without a fault

module _ (settings : Settings) (number : ℕ) (line : List ℕ) where
  pub solved : (p : Position) → settings.command ≡ Solve → solvable_reading line ≡ Ok p → report_line_of settings.scoring p.board ≡ reply settings number line
  solved p command is = sym (ap (board_reply (report_line_of settings.scoring)) is) ∙ replied settings Solve number line command

  pub scored : (p : Position) → settings.command ≡ Scores → solvable_reading line ≡ Ok p → scores_line_of settings.scoring p.board ≡ reply settings number line
  scored p command is = sym (ap (board_reply (scores_line_of settings.scoring)) is) ∙ replied settings Scores number line command

  pub moved : (p : Position) → settings.command ≡ Moves → reading line ≡ Ok p → moves_line_of p.board ≡ reply settings number line
  moved p command is = sym (ap (board_reply moves_line_of) is) ∙ replied settings Moves number line command

  pub reached : (p : Position) → Reaches settings.command line p → board_line p ≡ reply settings number line
  reached p (inl told) = sym (ap transcript_reply told.1) ∙ replied settings Transcript number line told.0
  reached p (inr told) = sym (ap play_reply told.1) ∙ replied settings Play number line told.0

  pub analysed : (last n : ℕ) → settings.command ≡ Analyse last → n ≡ number → analysis_of n settings.scoring last line ≡ reply settings number line
  analysed last n command is = ap (λ m. analysis_of m settings.scoring last line) is ∙ replied settings (Analyse last) number line command

-- ---- of a line with a fault

module _ (fault : Fault) where
  abbrev IsToldAs : List ℕ → Option Fault → Type 0
  IsToldAs text found = MatchOption found (Unit {0}) (λ f. any_fault_line_of f ≡ text)

  of_board : (told : Discs → List ℕ) (r : Result Position LineFault) → board_fault_of r ≡ Some fault → any_fault_line_of fault ≡ board_reply told r
  of_board told (Ok p) is = subst (IsToldAs (told p.board)) is tt
  of_board told (Err f) is = subst (IsToldAs (board_reply told (Err f))) is refl

  of_transcript : (r : Result Position TranscriptFault) → transcript_fault_of r ≡ Some fault → any_fault_line_of fault ≡ transcript_reply r
  of_transcript (Ok p) is = subst (IsToldAs (board_line p)) is tt
  of_transcript (Err f) is = subst (IsToldAs (transcript_reply (Err f))) is refl

  of_game : (r : Result Position GameFault) → game_fault_of r ≡ Some fault → any_fault_line_of fault ≡ play_reply r
  of_game (Ok p) is = subst (IsToldAs (board_line p)) is tt
  of_game (Err f) is = subst (IsToldAs (play_reply (Err f))) is refl

  of_command : (settings : Settings) (number : ℕ) (line : List ℕ) (command : Command) → ((last : ℕ) → command ≢ Analyse last)
      → first_fault command line ≡ Some fault → any_fault_line_of fault ≡ reply_to command settings.scoring number line
  of_command settings number line Solve other is = of_board (report_line_of settings.scoring) (solvable_reading line) is
  of_command settings number line Scores other is = of_board (scores_line_of settings.scoring) (solvable_reading line) is
  of_command settings number line Moves other is = of_board moves_line_of (reading line) is
  of_command settings number line Transcript other is = of_transcript (transcript_reading line) is
  of_command settings number line Play other is = of_game (game_reading line) is
  of_command settings number line (Analyse last) other is = absurd (other last refl)

  pub faulted : (settings : Settings) (number : ℕ) (line : List ℕ) → ((last : ℕ) → settings.command ≢ Analyse last)
      → first_fault settings.command line ≡ Some fault → any_fault_line_of fault ≡ reply settings number line
  faulted settings number line other is = of_command settings number line settings.command other is

-- ---- the fault itself

module _ (command : Command) (line : List ℕ) where
  by_command : (c : Command) (found : Option Fault) → command ≡ c → found ≡ first_fault c line → found ≡ first_fault command line
  by_command c found is told = told ∙ sym (ap (λ (d : Command). first_fault d line) is)

  pub of_analysed : (last : ℕ) (found : Option Fault) → command ≡ Analyse last → found ≡ fault_of line → found ≡ first_fault command line
  of_analysed last found is told = by_command (Analyse last) found is told
