use Rattle.std.proofs.Common.{◌≡◌, drop, map}
use Rattle.ffm_model.specs.Signatures.{seen, signature_in}
use Rattle.ffm_model.proofs.signatures.signature_in.Given as goal

abbrev pub invariant-loop-signature : goal.invariant-loop-signature
invariant-loop-signature l = signature_in (map seen (drop l.signature-index l.signatures)) l.word ≡ signature_in (map seen l.signatures) l.word
