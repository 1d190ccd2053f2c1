-- Inputs and what is written for them, worked by computation. Assumes nothing.
use Rattle.numbers.proofs.Prelude.{neg, [], ◌≡◌, refl}
use lib.Ieee.{le}
use Rattle.header.specs.Header.{head_by, contents_by, preamble_of}
use Rattle.line.specs.Put.{decimal, decimal_of}
use Rattle.request.specs.{Clock.{moment_of, seconds_of, when_of}, Number.{spelled, value_from, part_of, has_form, degrees_of, nearest_to}}
use Rattle.request.specs.{Request.{is_sealed, fields_of, sentence_of, plain_of, spelt_of, meaning, request_of}, Text.{formed, until, behind, unblanked}}
use Rattle.shell.specs.{Answer.{slip_for, line_for, fault_for, reason_line}, Requests.{last, requests_from, requests}, Text.{bytes}, Words.{table, words_in, words_of}}
use Rattle.shell.specs.Written.{lines_of, worst, written, status_of}
use Rattle.slip.specs.Slip.{within, on_globe, slip_at, slip_of}
use Rattle.request.specs.Number as N

-- an empty line, another sentence and a plain line that the input ends; the map is empty
pub worked_lines : written [] [] (bytes "\n$GPGGA,115959*7A\r\n0 0 0") ≡ bytes "not stamped: 80 0 0 not a request\nnot stamped: 2 0 0 under 7 bytes\n"
unfolding written lines_of requests requests_from last slip_for slip_of line_for reason_line table words_in words_of bytes decimal decimal_of request_of spelt_of meaning
    sentence_of fields_of plain_of is_sealed formed until behind unblanked N.decimal_of degrees_of nearest_to has_form part_of
    value_from spelled when_of moment_of seconds_of slip_at on_globe within le neg head_by contents_by preamble_of
worked_lines = refl

pub worked_status : status_of [] [] (bytes "\n$GPGGA,115959*7A\r\n0 0 0") ≡ 1
unfolding status_of worst requests requests_from last slip_for slip_of fault_for bytes request_of spelt_of meaning sentence_of fields_of plain_of is_sealed
    formed until behind unblanked N.decimal_of degrees_of nearest_to has_form part_of value_from spelled when_of moment_of seconds_of slip_at on_globe
    within le neg head_by contents_by preamble_of
worked_status = refl

-- other sentences alone: nothing, and 0
pub worked_others : written [] [] (bytes "$GPGGA,115959*7A\r\n$GPGGA,115959*7A\r\n") ≡ []
unfolding written lines_of requests requests_from last slip_for slip_of line_for bytes request_of spelt_of sentence_of fields_of is_sealed formed until behind
worked_others = refl

pub worked_others_status : status_of [] [] (bytes "$GPGGA,115959*7A\r\n$GPGGA,115959*7A\r\n") ≡ 0
unfolding status_of worst requests requests_from last slip_for slip_of fault_for bytes request_of spelt_of sentence_of fields_of is_sealed formed until behind
worked_others_status = refl
