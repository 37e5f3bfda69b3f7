mod Replaying
