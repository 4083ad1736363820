-- What is written of a line.
--     reply settings number line      of a board of at most 30 empty squares for `Solve` the value under the scoring and all best moves,
--         and for `Scores` the score of every move; for `Moves` all legal moves of a board; for `Transcript` and `Play` the board line of
--         the position that is reached; or the first fault of the line; for `Analyse` the analysis of a game, whose line has this number
use Rattle.std.specs.Prelude.{ℕ, List}
use Rattle.oth_rules.specs.declared.scoring.Scoring.{Scoring}
use Rattle.oth_text.specs.Analysis.{analysis_of}
use Rattle.oth_text.specs.BoardLine.{reading, solvable_reading}
use Rattle.oth_text.specs.Game.{game_reading}
use Rattle.oth_text.specs.Ranking.{scores_line_of}
use Rattle.oth_text.specs.Reply.{board_reply, play_reply, transcript_reply}
use Rattle.oth_text.specs.Report.{moves_line_of, report_line_of}
use Rattle.oth_text.specs.Transcript.{transcript_reading}
use Rattle.oth_words.specs.declared.settings.Command.{Command}
use Rattle.oth_words.specs.declared.settings.Command.TheVariants.{Solve, Scores, Moves, Transcript, Play, Analyse}
use Rattle.oth_words.specs.declared.settings.Settings.{Settings}

-- what the command tells of a line, under the scoring; the number is that of the line
abbrev pub reply_to : Command → Scoring → ℕ → List ℕ → List ℕ
reply_to Solve scoring number line = board_reply (report_line_of scoring) (solvable_reading line)
reply_to Scores scoring number line = board_reply (scores_line_of scoring) (solvable_reading line)
reply_to Moves scoring number line = board_reply moves_line_of (reading line)
reply_to Transcript scoring number line = transcript_reply (transcript_reading line)
reply_to Play scoring number line = play_reply (game_reading line)
reply_to (Analyse last) scoring number line = analysis_of number scoring last line

abbrev pub reply : Settings → ℕ → List ℕ → List ℕ
reply settings number line = reply_to settings.command settings.scoring number line
