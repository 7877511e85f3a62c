-- Each stage's refusal, and behind all of them the comparison, with what was noted.
use mathlib.Core.Path.{sym, ◌∙◌}
use Rattle.std.proofs.lemmas.Result.{err_from_is_err_and}
use Rattle.lengths.proofs.PlacesFound.{blank_256}
use Rattle.lengths.proofs.CheckLaws.{found_refused, numbers_refused, numbers_end_lem, numbers_accepted}
use Rattle.lengths.proofs.check.check_table.Goals as goal

pub find_segments-requires : goal.find_segments-requires
find_segments-requires c = record { in_bounds = c.requires; blank = blank_256 }

pub test_numbers-requires : goal.test_numbers-requires
test_numbers-requires c = c.find_segments.ensures.noted_if _ c.in_ok-first_sot.was

pub compare-requires : goal.compare-requires
compare-requires c =
    record {
      noted = c.find_segments.ensures.noted_if _ c.in_ok-first_sot.was;
      header_value = numbers_end_lem _ (sym c.in_ok-test_numbers.ensures);
    }

pub returns-in_err-first_sot : goal.returns-in_err-first_sot
returns-in_err-first_sot c =
    let p = err_from_is_err_and c.from_residual.result c.from_residual.ensures.1 in
    rw (p.1, p.2) (sym (found_refused _ _ _ (sym c.in_err-first_sot.ensures.value)))

pub returns-in_err-test_numbers : goal.returns-in_err-test_numbers
returns-in_err-test_numbers c =
    let p = err_from_is_err_and c.from_residual-in_err-test_numbers.result c.from_residual-in_err-test_numbers.ensures.1 in
    rw (p.1, p.2) (sym (numbers_refused _ _ _ (sym c.in_ok-first_sot.ensures.value) _ (sym c.in_err-test_numbers.ensures)))

pub returns : goal.returns
returns c = c.compare.ensures ∙ sym (numbers_accepted _ _ _ (sym c.in_ok-first_sot.ensures.value) (sym c.in_ok-test_numbers.ensures))
