use Rattle.mux_config.proofs.Words.{◌≡◌, config_bytes, rules}
use Rattle.mux_config.proofs.RecordLaws.{written_again}
use Rattle.mux_config.proofs.record_writer.write_config.Goals as goal

pub returns-clause-read_back : goal.returns-clause-read_back
returns-clause-read_back c =
    let spelled : c.put_config.new.out.items ≡ config_bytes c.args.config.now = search rules in
    λ rest. written_again c.put_config.new.out.items c.args.config.now rest c.put_config.ensures.configuration spelled
