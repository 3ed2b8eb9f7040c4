use Rattle.clap.specs.Words.{found_of}
use Rattle.command_words.proofs.Getters.{flag_read}
use Rattle.command_words.proofs.command_line.flag_of.Goals as goal

pub returns : goal.returns
returns c = λ flag. flag_read (found_of c.args.found.now) c.args.id.now c.get_flag.result flag c.get_flag.ensures.value c.get_flag.ensures.other
