use Rattle.fib_reader.proofs.Words.{◌∙◌, ◌≢◌, ap, arith, number_of, sym}
use Rattle.fib_reader.proofs.Forecast.{takes_sub, takes_if_service, takes_if_packet}
use Rattle.fib_reader.proofs.picture.Picture.new_members.Goals as goal

pub returns-in-SubChannels : goal.returns-in-SubChannels
returns-in-SubChannels c = takes_sub c.args.self.now c.args.entry.now c.args.others
    (sym c.extension.ensures.value ∙ ap number_of c.in-SubChannels.is)

pub returns-in-Services : goal.returns-in-Services
returns-in-Services c =
    rw (← c.self.view_is) (takes_if_service _ c.args.entry.now c.args.others c.new_members.result
    (sym c.extension.ensures.value ∙ ap number_of c.in-Services.is) c.new_members.ensures.known
    c.new_members.ensures.new)

pub returns-in-Packets : goal.returns-in-Packets
returns-in-Packets c =
    let one : c.args.entry.now.ext ≢ 1 = λ e. omega (arith, e) in
    let two : c.args.entry.now.ext ≢ 2 = λ e. omega (arith, e) in
    rw (← c.self.view_is) (takes_if_packet _ c.args.entry.now c.args.others c.new_members-in-Packets.result one two
    c.new_members-in-Packets.ensures.known c.new_members-in-Packets.ensures.new)
