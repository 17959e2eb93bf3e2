use Rattle.std.proofs.Common.{◌∙◌, Some, ap, option_map, sym}
use Rattle.sqlite_disk.specs.Memory.{memory_bytes}
use Rattle.agent_program.specs.Host.{bytes_or_none}
use Rattle.agent_program.proofs.MemHostLemmas.{db_held, held_there, log_held, others_held}
use Rattle.agent_program.proofs.mem_host.MemHostHost.open_database.Goals as goal

pub returns-in-Ok-clause-found : goal.returns-in-Ok-clause-found
returns-in-Ok-clause-found c = λ _ clean.
    let is = c.names_database.ensures c.if-not-names_database.false in
    let found = c.open_settled.ensures in
    let opened = (rw c.in-Ok.is at found) clean in (
      opened.0,
      record {
        db = opened.1.0 ∙ c.or_new-files.ensures.db ∙ ap (λ database. bytes_or_none (option_map (λ files. memory_bytes files.db) database)) c.take.ensures.value ∙ ap bytes_or_none (sym (db_held c.args.self.now c.args.path.now is));
        log = opened.2.0 ∙ c.or_new-files.ensures.log ∙ ap (λ database. bytes_or_none (option_map (λ files. memory_bytes files.log) database)) c.take.ensures.value
            ∙ ap bytes_or_none (sym (log_held c.args.self.now c.args.path.now is c.args.self.now.log_is));
        db_settled = opened.1.1;
        log_settled = opened.2.1;
      },
      opened.3,
    )

pub returns-in-Ok-clause-there : goal.returns-in-Ok-clause-there
returns-in-Ok-clause-there c = λ _ there. held_there c.args.self.now c.args.path.now (c.names_database.ensures c.if-not-names_database.false) there

pub returns-in-Ok-clause-others : goal.returns-in-Ok-clause-others
returns-in-Ok-clause-others c = λ _ other away. others_held c.args.self.now c.args.path.now (c.names_database.ensures c.if-not-names_database.false) c.args.self.now.log_is c.take.new.self other away

pub returns-in-Err-clause-others : goal.returns-in-Err-clause-others
returns-in-Err-clause-others c = λ _ other away. others_held c.args.self.now c.args.path.now (c.names_database.ensures c.if-not-names_database.false) c.args.self.now.log_is (Some c.in-Err.files) other away
