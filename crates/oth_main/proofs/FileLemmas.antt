-- The text of a true book is refused when out of memory alone.
use Rattle.std.proofs.Common.{◌≡◌, ℕ, List, arith, ap, sym, refl, ◌∙◌}
use Rattle.std.proofs.lemmas.Option.{slice_get_within, get_or_from_slice_get}
use Rattle.oth_rules.specs.declared.scoring.Scoring.{Scoring}
use Rattle.oth_book.specs.Book.{IsTrueBook}
use Rattle.oth_book.specs.Contents.{Contents, IsText, scoring_of}
use Rattle.oth_book.specs.Fault.{IsBookFault}
use Rattle.oth_book.specs.True.{IsCause, IsFirstUntrue, IsTrueClaim}
use Rattle.oth_book.specs.declared.claim.Claim.{Claim as AnyClaim}
use Rattle.oth_book.specs.declared.fault.BookFault.{BookFault}
use Rattle.oth_book.specs.declared.fault.BookFault.TheVariants as faults
use Rattle.oth_book.specs.declared.wrong.Cause.{Cause}
use Rattle.oth_book.specs.declared.wrong.Cause.TheVariants as cause
use Rattle.oth_book.specs.declared.wrong.Wrong.TheVariants as wrongs
use Rattle.oth_book.proofs.LawLemmas.{one_list}
use Rattle.oth_book.proofs.OneFault.{no_fault}
use Rattle.oth_main.specs.declared.book.book_file.BookRefusal.{BookRefusal}
use Rattle.oth_main.specs.declared.book.book_file.BookRefusal.TheVariants.{Text, Claim}
use Rattle.oth_main.specs.BookFile.{IsBookOf, IsForMemory, IsRefusal}

only_memory : (file : List ℕ) (book : Contents) (f : BookFault) → IsText book file → IsBookFault file f → f ≡ faults.Memory
only_memory file book faults.Memory text fault = refl
only_memory file book faults.Header text fault = absurd (no_fault text.version book.entries file faults.Header text.text fault (λ e. cc))
only_memory file book (faults.Line k) text fault = absurd (no_fault text.version book.entries file (faults.Line k) text.text fault (λ e. cc))
only_memory file book (faults.Order k) text fault = absurd (no_fault text.version book.entries file (faults.Order k) text.text fault (λ e. cc))
only_memory file book faults.Count text fault = absurd (no_fault text.version book.entries file faults.Count text.text fault (λ e. cc))
only_memory file book faults.CutShort text fault = absurd (no_fault text.version book.entries file faults.CutShort text.text fault (λ e. cc))
only_memory file book faults.Trailing text fault = absurd (no_fault text.version book.entries file faults.Trailing text.text fault (λ e. cc))

no_cause : (g : Scoring) (c : AnyClaim) (why : Cause) → IsTrueClaim g c → IsCause g c why → ⊥
no_cause g c cause.Empties holds why = let few = holds.empties in omega (arith, few, why)
no_cause g c cause.Bounds holds why = why.1 holds.bounds
no_cause g c cause.Best holds why = why.3 (holds.best why.2)

all_true : (book said : Contents) (i : ℕ) (why : Cause) → IsTrueBook book → said ≡ book → IsFirstUntrue said i why → ⊥
all_true book said i why holds same first =
    let untrue : IsFirstUntrue book i why = rw same at first in
    let c = untrue.entry.0 in
    let is = untrue.entry.1 in
    let each = holds.each i c (slice_get_within book.entries i c is) in
    no_cause book.scoring c why (rw (get_or_from_slice_get book.entries i c c is) at each.holds) untrue.entry.2

-- bytes say one thing
one_said : (file : List ℕ) (a b : Contents) → IsText a file → IsText b file → a ≡ b
one_said file a b ha hb =
    let one = one_list ha.version hb.version a.entries b.entries file ha.text hb.text in
    let scoring : a.scoring ≡ b.scoring = ha.scoring ∙ ap scoring_of one.0 ∙ sym hb.scoring in
    ap (λ (g : Scoring). let c : Contents = record { scoring = g; entries = a.entries } in c) scoring
    ∙ ap (λ (xs : List AnyClaim). let c : Contents = record { scoring = b.scoring; entries = xs } in c) one.1

pub for_memory : (file : List ℕ) (book : Contents) (why : BookRefusal) → IsBookOf file book → IsRefusal file why → IsForMemory why
for_memory file book (Text fault) is refusal = only_memory file book fault is.text refusal
for_memory file book (Claim wrongs.Memory) is refusal = refl
for_memory file book (Claim (wrongs.Entry k why)) is refusal =
    absurd (all_true book refusal.0 refusal.2.0 why is.holds (one_said file refusal.0 book refusal.1 is.text) refusal.2.2)
