use borrow.Author.Rules.{rules}
use Rattle.salvage.proofs.Rooms.{long_log, room_for_all, short_log, short_report, short_times}
use Rattle.salvage.proofs.room_number.Statement.{statement}
use Rattle.salvage.proofs.room_number.Tie as tie
use Rattle.salvage.proofs.room_number.Reads as reads
use Rattle.salvage.proofs.room_number.Lts as lts

returns-then-tally-gt32768 : tie.Need-returns-then-tally-gt32768
returns-then-tally-gt32768 c = let a = c.args in long_log a.tally a.log_room a.time_room a.report_room c.if-tally-gt32768.true

returns-then-log_room-tally : tie.Need-returns-then-log_room-tally
returns-then-log_room-tally c =
    let e = c.before.before in
    let a = e.args in
    short_log a.tally a.log_room a.time_room a.report_room e.if-tally-gt32768.false c.if-log_room-tally.true

returns-then-time_room-tally : tie.Need-returns-then-time_room-tally
returns-then-time_room-tally c =
    let l = c.before.before in
    let e = l.before.before in
    let a = e.args in
    short_times a.tally a.log_room a.time_room a.report_room e.if-tally-gt32768.false l.if-log_room-tally.false c.if-time_room-tally.true

returns-then-report_room-tally : tie.Need-returns-then-report_room-tally
returns-then-report_room-tally c =
    let t = c.before.before in
    let l = t.before.before in
    let e = l.before.before in
    let a = e.args in
    short_report a.tally a.log_room a.time_room a.report_room e.if-tally-gt32768.false l.if-log_room-tally.false t.if-time_room-tally.false c.if-report_room-tally.true

returns : tie.Need-returns
returns c =
    let t = c.before.before in
    let l = t.before.before in
    let e = l.before.before in
    let a = e.args in
    room_for_all a.tally a.log_room a.time_room a.report_room e.if-tally-gt32768.false l.if-log_room-tally.false t.if-time_room-tally.false c.if-report_room-tally.false

pub room_number_spec : {M : Type 1} → statement M
room_number_spec = tie.close (tie.spec returns-then-tally-gt32768 returns-then-log_room-tally returns-then-time_room-tally returns-then-report_room-tally returns)
