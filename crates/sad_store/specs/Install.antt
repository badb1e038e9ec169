-- The first reason why an association can't be installed among the halves, if there is one, of this project.
use Rattle.std.specs.Prelude.{◌≡◌, List, Option, Some, None, if◌then◌else◌}
use Rattle.ikeless_tree.specs.declared.sad.SadEntry.{SadEntry}
use Rattle.sad_store.specs.declared.half.Half.{Half}
use Rattle.sad_store.specs.declared.fault.InstallFault.{InstallFault}
use Rattle.sad_store.specs.declared.fault.InstallFault.TheVariants as faults
use Rattle.sad_store.specs.Halves.{is_name_taken, is_spi_taken, is_full}

-- its name comes first, then the SPI of an inbound one, then room
abbrev pub install_fault : SadEntry → List Half → Option InstallFault
install_fault e xs =
    if is_name_taken e xs then Some (faults.NameTaken e)
    else if is_spi_taken e xs then Some (faults.SpiTaken e)
    else if is_full xs then Some (faults.Full e)
    else None

-- the refusal is the one stated, or memory ran out; each hands the association back
abbrev pub IsInstallFault : InstallFault → SadEntry → List Half → Type 0
IsInstallFault (faults.NoMemory given) e xs = given ≡ e
IsInstallFault (faults.NameTaken given) e xs = install_fault e xs ≡ Some (faults.NameTaken given)
IsInstallFault (faults.SpiTaken given) e xs = install_fault e xs ≡ Some (faults.SpiTaken given)
IsInstallFault (faults.Full given) e xs = install_fault e xs ≡ Some (faults.Full given)
