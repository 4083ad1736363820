use Rattle.std.proofs.Common.{[], ◌++◌}
use Rattle.std.proofs.KnownBytes.{Consumes-trans}
use Rattle.std.proofs.lemmas.Result.{IfErr-weaker, on_ok_weaker}
use Rattle.oth_main.proofs.AdditionLemmas.{adding_none, full_of, stops_weaker}
use Rattle.oth_main.proofs.book.addition.Addition.read_lines.Goals as goal

pub returns-then-solver-lt2-clause-ok : goal.returns-then-solver-lt2-clause-ok
returns-then-solver-lt2-clause-ok g c =
    on_ok_weaker c.read_on.result (λ d. (d.0, d.1, d.2 _ [] (adding_none _ _ c.requires.holds c.requires.line))) c.read_on.ensures.ok

pub returns-then-solver-lt2-clause-err : goal.returns-then-solver-lt2-clause-err
returns-then-solver-lt2-clause-err g c =
    IfErr-weaker c.read_on.result _ _ (λ stop. stops_weaker stop _ _ _ (λ d.
    record { input = d.0; read = d.1; full = full_of _ _ (d.2 _ [] (adding_none _ _ c.requires.holds c.requires.line)) })) c.read_on.ensures.err

pub returns-then-count-eq0-clause-ok : goal.returns-then-count-eq0-clause-ok
returns-then-count-eq0-clause-ok g c =
    (_, c.in-Ok.ensures.bytes.0, rw c.if-count-eq0.true (adding_none _ _ c.requires.holds c.requires.line))

pub returns-clause-ok : goal.returns-clause-ok
returns-clause-ok g c = on_ok_weaker c.read_from.result (λ d. (
  _ ++ d.0,
  Consumes-trans _ _ _ _ _ c.in-Ok.ensures.bytes.0 d.1,
  d.2 _ [] (adding_none _ _ c.requires.holds c.requires.line),
)) c.read_from.ensures.ok

pub returns-clause-err : goal.returns-clause-err
returns-clause-err g c = IfErr-weaker c.read_from.result _ _ (λ stop. stops_weaker stop _ _ _ (λ d. record {
  input = _ ++ d.0;
  read = Consumes-trans _ _ _ _ _ c.in-Ok.ensures.bytes.0 d.1;
  full = full_of _ _ (d.2 _ [] (adding_none _ _ c.requires.holds c.requires.line));
})) c.read_from.ensures.err
