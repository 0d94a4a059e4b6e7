-- Which refusal of a drive a refusal of its threads is.
use Rattle.flow_shares.specs.declared.error.WorkError.{WorkError}
use Rattle.flow_shares.specs.declared.error.WorkError.TheVariants as work
use Rattle.flow_drives.specs.declared.driver.DriveError.{DriveError}
use Rattle.flow_drives.specs.declared.driver.DriveError.TheVariants as drive

abbrev pub drive_error_of : WorkError → DriveError
drive_error_of work.NoMemory = drive.NoMemory
drive_error_of work.NoThread = drive.NoThread
