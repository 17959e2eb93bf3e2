use Rattle.vault_volume.proofs.file_volume.FileVolume.open.Goals as goal

pub returns-in-Err-clause-beside : goal.returns-in-Err-clause-beside
returns-in-Err-clause-beside g c = g.met.H.BlockFiles.beside_through _ _ _ c.find.ensures.beside c.close.ensures.beside
